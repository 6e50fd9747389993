-- Beside `specs/Loops.antt`: what proofs alone say.
use Rattle.std.specs.Prelude.{ℕ, true, List, [], ◌∷◌, Option, Some, None, String}
use Rattle.std.specs.declared.alloc.Global.{Global}
use Rattle.vast_core.specs.Handles.{VastDataType}
use Rattle.vast_core.specs.declared.node.ExprNode.{ExprNode}
use Rattle.vast_core.specs.declared.node.ExprNode.TheVariants.{Name, DataType}
use Rattle.vast_core.specs.declared.node.TypeNode.TheVariants.{External}
use Rattle.vast_core.specs.Nests.{NestRecord, AlwaysRecord, FunctionRecord}
use Rattle.vast_core.specs.Internal.Containers.{Fresh, no_fresh}

abbrev pub fresh_always : AlwaysRecord → Fresh
fresh_always a = record no_fresh { block = true; always_block = Some a }

abbrev pub name_term : List ℕ → Option VastDataType → ExprNode
name_term name type = Name name type

abbrev pub fresh_name : List ℕ → Option VastDataType → Fresh
fresh_name name type = record no_fresh { terms = name_term name type ∷ [] }

abbrev pub fresh_type : String Global → Fresh
fresh_type name = record no_fresh { terms = DataType (External name) ∷ [] }

abbrev pub fresh_loop : List ℕ → NestRecord → Fresh
fresh_loop variable n = record no_fresh { terms = name_term variable None ∷ []; container = Some n }

abbrev pub fresh_function : List ℕ → VastDataType → FunctionRecord → Fresh
fresh_function name result_type f = record no_fresh { terms = name_term name (Some result_type) ∷ []; block = true; function = Some f }
