use Rattle.action_lower.proofs.turns.+put_turns.Given as goal

abbrev pub decreases-put_turns : goal.decreases-put_turns
decreases-put_turns l = l.count
