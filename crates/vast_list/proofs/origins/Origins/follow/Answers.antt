use Rattle.std.proofs.Common.{refl}
use Rattle.vast_list.proofs.TextLines.{follows, whole_text}
use Rattle.vast_list.proofs.origins.Origins.follow.Goals as goal

pub returns-clause-text : goal.returns-clause-text
returns-clause-text c =
    whole_text c.args.self.now.lines.items c.replace.new.lines.items c.in_ok-made.made.items c.deref.result.now c.deref-2.result.now c.shared_begin-begin.result.0 c.between-end.result.0
    c.args.text.now c.shared_begin-begin.result.1.now c.between-end.result.1.now c.deref.ensures.value c.deref-2.ensures.value
    c.shared_begin-begin.ensures.text c.between-end.ensures.text c.in_ok-made.ensures.0 c.in_ok-replace.ensures.replaced

pub returns-clause-origins : goal.returns-clause-origins
returns-clause-origins c =
    follows c.args.call c.args.self.now.lines.items c.replace.new.lines.items c.in_ok-made.made.items c.deref-3.result.now _ c.shared_begin-begin.result.0 c.between-end.result.0
    c.deref-3.ensures.value c.between-end.ensures.begin refl c.in_ok-made.ensures.1 c.in_ok-replace.ensures.replaced
