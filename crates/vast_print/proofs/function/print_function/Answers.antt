use Rattle.std.proofs.Common.{arith}
use Rattle.vast_core.specs.View.{bench}
use Rattle.vast_print.proofs.Variables.{inputs-own, locals-own}
use Rattle.vast_print.proofs.ContainerLaws.{functions}
use Rattle.vast_print.proofs.function.print_function.Goals as goal

pub returns : goal.returns
returns c = rw c.function-function.ensures.there (grind (arith, functions))

pub returns-in_err-print_result : goal.returns-in_err-print_result
returns-in_err-print_result c = rw c.function-function.ensures.there (grind (arith, functions))

pub returns-in_err-print_inputs : goal.returns-in_err-print_inputs
returns-in_err-print_inputs c = rw c.function-function.ensures.there (grind (arith, functions))

pub returns-in_err-print_locals : goal.returns-in_err-print_locals
returns-in_err-print_locals c = rw c.function-function.ensures.there (grind (arith, functions))

pub returns-in_err-print_body : goal.returns-in_err-print_body
returns-in_err-print_body c = rw c.function-function.ensures.there (grind (arith, functions))

pub print_inputs-requires : goal.print_inputs-requires
print_inputs-requires c = rw c.deref-2.ensures.value (inputs-own (bench c.args.ast.now) c.function-function.result.now c.function-function.ensures.sound)

pub print_locals-requires : goal.print_locals-requires
print_locals-requires c = rw c.deref-3.ensures.value (locals-own (bench c.args.ast.now) c.function-function.result.now c.function-function.ensures.sound)
