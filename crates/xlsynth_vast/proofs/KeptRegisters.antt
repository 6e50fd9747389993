-- What a file keeps where registers are added, also where memory was refused in the midst.
use Rattle.std.proofs.Common.{List, [], ◌∷◌, Option, Result, Ok, Err, refl, sym, ap, subst, arith}
use Rattle.vast_literal.specs.declared.error.VastFault.{VastFault}
use Rattle.vast_literal.specs.declared.error.VastFault.TheVariants.{Refused, Memory}
use Rattle.vast_literal.specs.declared.kind.AlwaysKind.TheVariants.{AlwaysFF}
use Rattle.vast_core.specs.declared.handle.Expr.{Expr}
use Rattle.vast_core.specs.declared.handle.VastStatementBlock.{VastStatementBlock}
use Rattle.vast_core.specs.declared.node.Member.TheVariants.{Always as AlwaysEntry}
use Rattle.vast_core.specs.Nests.{nest_kind}
use Rattle.vast_core.specs.Bench.{Bench}
use Rattle.vast_core.specs.Growth.{with_member}
use Rattle.vast_core.specs.Loops.{next_always, with_loop_member}
use Rattle.vast_core.specs.Unattached.{always_over, with_always_over}
use Rattle.vast_core.proofs.Lists.{slice_get-append}
use Rattle.vast_core.proofs.Nests.{get-before}
use Rattle.vast_core.proofs.Unattached.{fresh_over}
use Rattle.xlsynth_vast.specs.declared.helpers.registers.Reset.{Reset}
use Rattle.xlsynth_vast.specs.declared.helpers.registers.RegisterDefinition.{RegisterDefinition}
use Rattle.xlsynth_vast.specs.declared.helpers.registers.RegisterScope.{RegisterScope}
use Rattle.xlsynth_vast.specs.declared.helpers.registers.RegisterScope.TheVariants.{Module as ModuleScope, GenerateLoop as LoopScope}
use Rattle.xlsynth_vast.specs.Registers.{HasUnused, with_unused}
use Rattle.xlsynth_vast.specs.AddedRegisters.{with_clocked, MayAddRegisters}
use Rattle.xlsynth_vast.specs.Keeps.{Keeps}
use Rattle.xlsynth_vast.proofs.Kept.{keeps-grown, keeps-same, keeps-then, keeps-fresh}
use Rattle.xlsynth_vast.proofs.KeptWords.{member-kept, loop_member-kept}

pub keeps-unused : (b c : Bench) → HasUnused b c → Keeps b c
keeps-unused b c h =
    let d : Bench = with_unused h.roots h.assignments h.containers h.detached b in
    subst (λ x. Keeps b x) (sym h.after) (keeps-grown b d (record {
      nodes = record { same_id = refl; same_roots = λ i r e. slice_get-append b.nodes.roots h.roots i r e };
      ports = omega arith;
      assignments = λ i a e. slice_get-append b.assignments h.assignments i a e;
      modules = omega arith;
      definitions = omega arith;
      artifacts = λ i a e. e;
      instances = omega arith;
      nests = λ i below. ap nest_kind (get-before b.nests h.containers i below);
      functions = omega arith;
      always_blocks = λ i a e. e;
    }) refl)

over-kept : (event : Expr) (block : VastStatementBlock) (b : Bench) → Keeps b (with_always_over AlwaysFF (event ∷ []) block b)
over-kept event block b = keeps-fresh b (fresh_over (always_over AlwaysFF (event ∷ []) block))

clocked-kept : (scope : RegisterScope) (event : Expr) (block : VastStatementBlock) (b : Bench) → Keeps b (with_clocked scope event block b)
clocked-kept (ModuleScope owner) event block b =
    let c : Bench = with_always_over AlwaysFF (event ∷ []) block b in
    keeps-then b c (with_member owner (AlwaysEntry (next_always b)) c) (over-kept event block b) (member-kept owner (AlwaysEntry (next_always b)) c)
clocked-kept (LoopScope owner) event block b =
    let c : Bench = with_always_over AlwaysFF (event ∷ []) block b in
    keeps-then b c (with_loop_member owner (AlwaysEntry (next_always b)) c) (over-kept event block b) (loop_member-kept owner (AlwaysEntry (next_always b)) c)

pub registers-kept :
    (old new : Bench) (result : Result (Unit {0}) VastFault) (clk : Expr) (reset : Option Reset) (registers : List RegisterDefinition) (scope : RegisterScope) →
    MayAddRegisters old new result clk reset registers scope → Keeps old new
registers-kept old new (Ok x) clk reset [] scope h = subst (λ x. Keeps old x) (sym h) (keeps-same old)
registers-kept old new (Ok x) clk reset (r ∷ rs) scope h =
    let frame = h.frame in
    keeps-then old frame.between new (keeps-unused old frame.between frame.unused)
    (subst (λ x. Keeps frame.between x) (sym frame.after) (clocked-kept scope frame.event frame.block frame.between))
registers-kept old new (Err (Refused e)) clk reset registers scope h = subst (λ x. Keeps old x) (sym h.1) (keeps-same old)
registers-kept old new (Err (Memory e)) clk reset registers scope h = keeps-unused old new h
