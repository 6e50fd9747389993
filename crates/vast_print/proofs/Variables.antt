-- The inputs and the locals of a function are the file's.
use Rattle.std.proofs.Common.{All}
use Rattle.vast_core.specs.declared.node.Function.{Function}
use Rattle.vast_core.specs.Nests.{function_record}
use Rattle.vast_core.specs.Bench.{Bench}
use Rattle.vast_core.specs.Sound.{VariableSound, FunctionSound}
use Rattle.vast_core.proofs.Lists.{All-own}

pub inputs-own : (b : Bench) (f : Function) → FunctionSound b (function_record f) → All (VariableSound b) f.inputs.items
inputs-own b f h = All-own (VariableSound b) f.inputs.items h.inputs

pub locals-own : (b : Bench) (f : Function) → FunctionSound b (function_record f) → All (VariableSound b) f.locals.items
locals-own b f h = All-own (VariableSound b) f.locals.items h.locals

pub ruleset variables = (inputs-own, locals-own)
