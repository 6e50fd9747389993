use Rattle.vast_calls.proofs.packed.+digits_front.Given as goal

abbrev pub decreases-digits_front : goal.decreases-digits_front
decreases-digits_front l = l.most
