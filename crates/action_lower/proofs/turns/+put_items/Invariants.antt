use Rattle.action_lower.proofs.turns.+put_items.Given as goal

abbrev pub decreases-put_items : goal.decreases-put_items
decreases-put_items l = l.lists
