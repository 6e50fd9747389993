use Rattle.std.proofs.Common.{rules}
use Rattle.vast_replay.proofs.Sessions.{line_read}
use Rattle.vast_replay.proofs.session.read_line.Goals as goal

pub returns : goal.returns
returns g c =
    line_read (g.R.Read.remaining c.args.input.now) _ c.new-line.result.items c.read_until.new.buf.items c.strip_feed.new.line (search rules) (search rules) c.in_ok-read_until.ensures.bytes c.in_ok-read_until.ensures.rest c.strip_feed.ensures
