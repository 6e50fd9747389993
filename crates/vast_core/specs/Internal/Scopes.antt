-- Beside `specs/Scopes.antt`: what private contracts and proofs say, and no public one.
use Rattle.std.specs.Prelude.{None}
use Rattle.vast_core.specs.declared.ast.scope.Scope.{Scope}
use Rattle.vast_core.specs.declared.ast.scope.Scope.TheVariants.{Module as ScopeModule, Loop as ScopeLoop}
use Rattle.vast_core.specs.Records.{Member}
use Rattle.vast_core.specs.Containers.{MemberEnters}
use Rattle.vast_core.specs.Internal.Containers.{Listing, MembersGain, InModule, InNest}

-- A member without a name goes to the end of the scope's members.
abbrev pub listing_in : Scope → Member → Listing
listing_in (ScopeModule m) entry = InModule m (MembersGain entry None)
listing_in (ScopeLoop l) entry = InNest l.id.index (MemberEnters entry)
