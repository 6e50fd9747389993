use Rattle.xlsynth_vast.proofs.helpers.reductions.logical_reduced.Given as goal

abbrev pub ghost-join_all : goal.ghost-join_all
ghost-join_all g a = g.operator
