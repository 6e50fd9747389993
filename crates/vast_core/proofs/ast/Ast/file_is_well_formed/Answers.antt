-- proofs/ast/Ast/file_is_well_formed/Answers.antt
use Rattle.vast_core.proofs.WellFormedTree.{tree-good}
use Rattle.vast_core.proofs.ast.Ast.file_is_well_formed.Goals as goal

pub returns : goal.returns
returns c = tree-good _ c.trees_are_well_formed.ensures c.file_is_sound.ensures
