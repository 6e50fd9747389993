-- The arenas of a file as contracts see them.
use Rattle.std.specs.Prelude.{◌-◌, vec_capacity, vec_len}
use Rattle.vast_core.specs.ArenaState.{ArenaState}
use Rattle.vast_core.specs.declared.ast.Ast.TheInside.{Inside}

-- What an `Ast` holds, read off its arenas.
abbrev pub arenas : Inside → ArenaState
arenas a =
    record {
      file_type = a.file_type;
      id = a.id;
      terms = a.terms.items;
      term_room = vec_capacity a.terms - vec_len a.terms;
      nests = a.nests.items;
      ports = a.ports.items;
      assignments = a.assignments.items;
      modules = a.modules.items;
      functions = a.functions.items;
      definitions = a.definitions.items;
      artifacts = a.artifacts.items;
      instances = a.instances.items;
      always_blocks = a.always_blocks.items;
      items = a.items.items;
      detached = a.detached;
      assignment_room = vec_capacity a.assignments - vec_len a.assignments;
      nest_room = vec_capacity a.nests - vec_len a.nests;
      function_room = vec_capacity a.functions - vec_len a.functions;
      always_block_room = vec_capacity a.always_blocks - vec_len a.always_blocks;
      port_room = vec_capacity a.ports - vec_len a.ports;
      module_room = vec_capacity a.modules - vec_len a.modules;
      definition_room = vec_capacity a.definitions - vec_len a.definitions;
      artifact_room = vec_capacity a.artifacts - vec_len a.artifacts;
      instance_room = vec_capacity a.instances - vec_len a.instances;
    }
