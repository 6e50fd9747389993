use Rattle.std.proofs.Common.{List, ap, map, refl, ◌∙◌, false, codes}
use Rattle.vast_literal.specs.declared.kind.ModulePortDirection.TheVariants.{Input, Output}
use Rattle.vast_literal.specs.declared.kind.DataKind.TheVariants.{Wire, Reg}
use Rattle.vast_core.specs.declared.node.Statement.TheVariants.{Comment as CommentStatement}
use Rattle.vast_steps.specs.declared.step.Step.{Step}
use Rattle.vast_script.specs.Expressions.{make_binary_pattern, make_function_call}
use Rattle.vast_script.specs.Modules.{add_module, add_port}
use Rattle.vast_script.specs.Statements.{add_function, function_add_variable, block_add}
use Rattle.vast_script.specs.Script.{call_of}
use Rattle.vast_designs.specs.DesignCalls.{cases_calls}
use Rattle.vast_designs.proofs.CallLists.{alike, texted, texted-listed}
use Rattle.vast_designs.proofs.encoder.cases_steps.Goals as goal

pub returns : goal.returns
unfolding cases_calls
returns c =
    ap (λ (steps : List Step). map call_of steps) c.in_ok-steps.ensures.items ∙ texted (λ n. add_module n) _ _ _ _ c.in_ok-from_str.ensures.ok (
    alike _ _ _ (
    alike _ _ _ (
    texted (λ n. add_port Input Wire 0 n 1) _ _ _ _ c.in_ok-from_str-2.ensures.ok (
    texted (λ n. add_port Output Wire 0 n 2) _ _ _ _ c.in_ok-from_str-3.ensures.ok (
    texted (λ n. add_function 0 n 2) _ _ _ _ c.in_ok-from_str-4.ensures.ok (
    texted (λ n. function_add_variable false Reg (codes "input") 5 n 1) _ _ _ _ c.in_ok-from_str-5.ensures.ok (
    alike _ _ _ (
    alike _ _ _ (
    alike _ _ _ (
    alike _ _ _ (
    texted (λ n. make_binary_pattern n) _ _ _ _ c.in_ok-from_str-6.ensures.ok (
    alike _ _ _ (
    alike _ _ _ (
    alike _ _ _ (
    alike _ _ _ (
    alike _ _ _ (
    texted (λ n. block_add (CommentStatement n) 16) _ _ _ _ c.in_ok-from_str-7.ensures.ok (
    alike _ _ _ (
    texted-listed make_function_call _ _ _ _ _ _ c.in_ok-from_str-8.ensures.ok c.in_ok-arguments.ensures.items (
    alike _ _ _ (
    alike _ _ _ refl)))))))))))))))))))))
