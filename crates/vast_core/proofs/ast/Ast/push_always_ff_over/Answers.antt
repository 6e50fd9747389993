-- proofs/ast/Ast/push_always_ff_over/Answers.antt
use Rattle.vast_literal.specs.declared.kind.AlwaysKind.TheVariants.{AlwaysFF}
use Rattle.vast_core.specs.View.{bench}
use Rattle.vast_core.proofs.Unattached.{detached-owned}
use Rattle.vast_core.proofs.EntersScopes.{always_over-enters}
use Rattle.vast_core.proofs.ast.Ast.push_always_ff_over.Goals as goal

pub grow_in-requires : goal.grow_in-requires
grow_in-requires c =
    rw c.next_always_block.ensures (always_over-enters (bench c.args.self.now) c.args.scope AlwaysFF c.args.events.items c.args.block c.requires.scope c.requires.events
    (detached-owned (bench c.args.self.now) c.args.block c.file_is_sound.ensures c.requires.detached) c.requires.detached c.requires.older)
