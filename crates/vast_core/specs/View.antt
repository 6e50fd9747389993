-- What a file holds, read off its arenas.
use Rattle.std.specs.Prelude.{map}
use Rattle.vast_core.specs.ArenaState.{ArenaState}
use Rattle.vast_core.specs.Nodes.{no_nodes, built}
use Rattle.vast_core.specs.Records.{module_record, instance_record}
use Rattle.vast_core.specs.Nests.{nest_record, function_record, always_record}
use Rattle.vast_core.specs.Bench.{Bench}

-- The bench of what an `Ast` holds.
unfoldable pub bench : ArenaState → Bench
bench a =
    record {
      file_type = a.file_type;
      nodes = built (no_nodes a.id) a.terms;
      nests = map nest_record a.nests;
      ports = a.ports;
      assignments = a.assignments;
      modules = map module_record a.modules;
      functions = map function_record a.functions;
      definitions = a.definitions;
      artifacts = a.artifacts;
      instances = map instance_record a.instances;
      always_blocks = map always_record a.always_blocks;
      items = a.items;
      detached = a.detached;
    }
