-- What the code's tokens and events stand for.
use Rattle.std.specs.Prelude.{List, [], ◌∷◌}
use Rattle.vast_literal.specs.Tokens as to
use Rattle.vast_expressions.specs.Events as told
use Rattle.vast_expressions.specs.declared.token.Token.{Token}
use Rattle.vast_expressions.specs.declared.token.Token.TheVariants as token
use Rattle.vast_expressions.specs.declared.event.Event.{Event}
use Rattle.vast_expressions.specs.declared.event.Event.TheVariants as event

abbrev pub token_view : Token → to.Token
token_view (token.Reserved k) = to.Reserved k
token_view (token.Word w) = to.Word w.now
token_view (token.Keyword w) = to.Keyword w.now
token_view (token.SystemWord w) = to.SystemWord w.now
token_view (token.MacroWord w) = to.MacroWord w.now
token_view (token.Number w) = to.Number w.now
token_view (token.Based w) = to.Based w.now
token_view (token.Quoted w) = to.Quoted w.now
token_view (token.Operator s) = to.Operator s
token_view (token.Mark m) = to.Mark m

abbrev pub tail : {A : Type 0} → List A → List A
tail [] = []
tail (x ∷ xs) = xs

abbrev pub event_view : Event → told.Event
event_view (event.Name w) = told.NameE w.now
event_view (event.Literal w) = told.LiteralE w.now
event_view (event.Text w) = told.TextE w.now
event_view (event.MacroAlone w) = told.MacroE w.now
event_view (event.Word w) = told.WordE w.now
event_view (event.PartSelect w) = told.PartSelectE w.now
event_view (event.MemberOf w) = told.MemberOfE w.now
event_view (event.Made t) = told.Made t
