use Rattle.balanced_rates.proofs.fraction.+lowest_terms.Given as goal

abbrev pub decreases-lowest_terms : goal.decreases-lowest_terms
decreases-lowest_terms l = l.under
