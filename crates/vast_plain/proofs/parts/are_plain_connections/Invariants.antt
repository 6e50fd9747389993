use Rattle.std.proofs.Common.{◌≡◌, drop, map}
use Rattle.vast_literal.specs.PlainFile.{are_plain_connections}
use Rattle.vast_core.specs.FileTree.{connection_tree}
use Rattle.vast_core.specs.View.{bench}
use Rattle.vast_plain.proofs.parts.are_plain_connections.Given as goal

abbrev pub invariant-loop-connection : goal.invariant-loop-connection
invariant-loop-connection l =
    are_plain_connections (map (connection_tree (bench l.ast)) l.connections)
    ≡ are_plain_connections (map (connection_tree (bench l.ast)) (drop l.connection-index l.connections))
