-- The kinds that the grammar has still stand in a file, and values are given, after a growth.
use Rattle.std.proofs.Common.{Bool, true, false, Option, Some, None}
use Rattle.std.specs.Prelude.{IfSome}
use Rattle.vast_core.specs.Handles.{VastModule}
use Rattle.vast_core.specs.Records.{ModuleRecord, InstanceRecord}
use Rattle.vast_core.specs.Nests.{FunctionRecord, FunctionVariable}
use Rattle.vast_core.specs.Bench.{Bench}
use Rattle.vast_core.specs.Functions.{with_listed_variable}
use Rattle.vast_core.specs.WrittenKinds.{IsVariableKind, HasOwnKind, HasLocalKind}
use Rattle.vast_core.specs.Sound.{DeclaresOwnKinds, HasLocalKinds, GivesValues, KindsSound}
use Rattle.vast_core.specs.Internal.Containers.{ModuleChange, HeaderGains, PortsGain, MembersGain, Hoists, with_change, ChangeSound, Listing, InModule, InFunction, with_listing, with_fresh, Fresh, FreshSound, ComesEmpty, FunctionComes, InstanceComes, ListingSound}
use Rattle.vast_core.proofs.Lists.{Each-push, Each-changed_at}
use Rattle.vast_core.proofs.Added.{Each-added}
use Rattle.vast_core.proofs.Hoisting.{Each-hoisted}

-- New nodes.

module-kinds : (c : Bench) (o : Option ModuleRecord) → IfSome o (ComesEmpty c) → IfSome o DeclaresOwnKinds
module-kinds c None h = tt
module-kinds c (Some m) h = h.kinds

function-kinds : (c : Bench) (o : Option FunctionRecord) → IfSome o (FunctionComes c) → IfSome o HasLocalKinds
function-kinds c None h = tt
function-kinds c (Some f) h = h.kinds

instance-values : (c : Bench) (o : Option InstanceRecord) → IfSome o (InstanceComes c) → IfSome o GivesValues
instance-values c None h = tt
instance-values c (Some i) h = h.values

pub KindsSound-fresh :
    (b : Bench) (f : Fresh) → FreshSound b (with_fresh f b) f → KindsSound b.modules b.functions b.instances →
    KindsSound (with_fresh f b).modules (with_fresh f b).functions (with_fresh f b).instances
KindsSound-fresh b f h s =
    let c : Bench = with_fresh f b in
    record {
      declarations = Each-added DeclaresOwnKinds b.modules f.fresh_module s.declarations (module-kinds c f.fresh_module h.fresh_module);
      locals = Each-added HasLocalKinds b.functions f.function s.locals (function-kinds c f.function h.function);
      values = Each-added GivesValues b.instances f.instance s.values (instance-values c f.instance h.instance);
    }

-- A new entry.

change-kinds : (c : Bench) (owner : VastModule) (change : ModuleChange) → ChangeSound c owner change → (m : ModuleRecord) → DeclaresOwnKinds m → DeclaresOwnKinds (with_change change m)
change-kinds c owner (HeaderGains p) k m h = h
change-kinds c owner (PortsGain port name) k m h = h
change-kinds c owner (MembersGain entry None) k m h = Each-push HasOwnKind m.members entry h k.kind
change-kinds c owner (MembersGain entry (Some name)) k m h = Each-push HasOwnKind m.members entry h k.kind
change-kinds c owner (Hoists start) k m h = Each-hoisted HasOwnKind start m.members h

variable-kinds : (local : Bool) (v : FunctionVariable) → IsVariableKind local v.kind → (f : FunctionRecord) → HasLocalKinds f → HasLocalKinds (with_listed_variable local v f)
variable-kinds false v k f h = h
variable-kinds true v k f h = Each-push HasLocalKind f.locals v h k

pub KindsSound-listing :
    (b c : Bench) (l : Listing) → ListingSound b c l → KindsSound c.modules c.functions c.instances →
    KindsSound (with_listing l c).modules (with_listing l c).functions (with_listing l c).instances
KindsSound-listing b c (InModule owner change) k s =
    record { declarations = Each-changed_at DeclaresOwnKinds (with_change change) (change-kinds c owner change k.1) c.modules owner.id.index s.declarations; locals = s.locals; values = s.values }
KindsSound-listing b c (InFunction f local v) k s =
    record { declarations = s.declarations; locals = Each-changed_at HasLocalKinds (with_listed_variable local v) (variable-kinds local v k.kind) c.functions f.id.index s.locals; values = s.values }
KindsSound-listing b c _ k s = s
