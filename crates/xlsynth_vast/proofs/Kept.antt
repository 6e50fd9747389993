-- What a file keeps as it grows.
use Rattle.std.proofs.Common.{◌≡◌, ℕ, length, Bool, true, false, cond, Result, Ok, Err, refl, sym, ap, ◌∙◌, subst, arith}
use Rattle.std.specs.declared.alloc.AllocError.{AllocError}
use Rattle.vast_core.specs.ArenaState.{ArenaState}
use Rattle.vast_core.specs.View.{bench}
use Rattle.vast_core.specs.Nodes.{Root, is_name, is_index, is_slice, is_macro}
use Rattle.vast_core.specs.Records.{ModuleRecord, changed_at}
use Rattle.vast_core.specs.Nests.{is_kind, BlockKind, ConditionalKind, CaseStatementKind, LoopKind}
use Rattle.vast_core.specs.Bench.{Bench, is_blank_line, is_comment, is_inline, is_macro_statement}
use Rattle.vast_core.specs.Growth.{Grows as GrowsTo, with_root}
use Rattle.vast_core.specs.Containers.{with_unique}
use Rattle.vast_core.specs.Internal.Containers.{Listing, AsUnique, with_listing, Fresh, with_fresh}
use Rattle.vast_core.proofs.NodeLaws.{Extends-root, HasExpr-kept, HasType-kept, expr_in-kept, type_in-kept}
use Rattle.vast_core.proofs.Sound.{Grows, shape_stays, index-kept, found-kept, artifact-kept, nest-kept, never, port_stays, continuous_stays}
use Rattle.vast_core.proofs.Growing.{Grows-fresh, Grows-listing, Grows-changed}
use Rattle.vast_print.specs.Text.{expr_text}
use Rattle.xlsynth_vast.specs.Keeps.{Keeps}

-- What grows keeps what it has.

pub keeps-grown : (b c : Bench) → Grows b c → c.file_type ≡ b.file_type → Keeps b c
keeps-grown b c g same =
    record {
      file_type = same;
      id = g.nodes.same_id;
      exprs = HasExpr-kept b.nodes c.nodes g.nodes;
      trees = expr_in-kept b.nodes c.nodes g.nodes;
      texts = λ x h. ap expr_text (expr_in-kept b.nodes c.nodes g.nodes x h);
      types = HasType-kept b.nodes c.nodes g.nodes;
      type_trees = type_in-kept b.nodes c.nodes g.nodes;
      logic_refs = λ x h. shape_stays is_name b c g x.id h;
      parameters = λ x h. shape_stays is_name b c g x.id h;
      localparams = λ x h. shape_stays is_name b c g x.id h;
      indexes = λ x h. shape_stays is_index b c g x.id h;
      slices = λ x h. shape_stays is_slice b c g x.id h;
      macro_refs = λ x h. shape_stays is_macro b c g x.id h;
      indexables = λ x h. HasExpr-kept b.nodes c.nodes g.nodes (record { id = x.id }) h;
      modules = λ x h. index-kept b c x.id (length b.modules) (length c.modules) g g.modules h;
      ports = port_stays b c g;
      functions = λ x h. index-kept b c x.id (length b.functions) (length c.functions) g g.functions h;
      instantiations = λ x h. index-kept b c x.id (length b.instances) (length c.instances) g g.instances h;
      always_blocks = λ x h. found-kept b c x.id b.always_blocks c.always_blocks g g.always_blocks h;
      definitions = λ x h. index-kept b c x.id (length b.definitions) (length c.definitions) g g.definitions h;
      statements = λ x h. found-kept b c x.id b.assignments c.assignments g g.assignments h;
      continuous = continuous_stays b c g;
      blank_lines = λ x h. artifact-kept is_blank_line b c x.id g never h;
      comments = λ x h. artifact-kept is_comment b c x.id g never h;
      inlines = λ x h. artifact-kept is_inline b c x.id g never h;
      macro_statements = λ x h. artifact-kept is_macro_statement b c x.id g never h;
      blocks = λ x h. nest-kept (is_kind BlockKind) b c x.id g never h;
      conditionals = λ x h. nest-kept (is_kind ConditionalKind) b c x.id g never h;
      cases = λ x h. nest-kept (is_kind CaseStatementKind) b c x.id g never h;
      loops = λ x h. nest-kept (is_kind LoopKind) b c x.id g never h;
    }

pub keeps-same : (b : Bench) → Keeps b b
keeps-same b =
    record {
      file_type = refl;
      id = refl;
      exprs = λ x o. o;
      trees = λ x o. refl;
      texts = λ x o. refl;
      types = λ x o. o;
      type_trees = λ x o. refl;
      logic_refs = λ x o. o;
      parameters = λ x o. o;
      localparams = λ x o. o;
      indexes = λ x o. o;
      slices = λ x o. o;
      macro_refs = λ x o. o;
      indexables = λ x o. o;
      modules = λ x o. o;
      ports = λ x o. o;
      functions = λ x o. o;
      instantiations = λ x o. o;
      always_blocks = λ x o. o;
      definitions = λ x o. o;
      statements = λ x o. o;
      continuous = λ x o. o;
      blank_lines = λ x o. o;
      comments = λ x o. o;
      inlines = λ x o. o;
      macro_statements = λ x o. o;
      blocks = λ x o. o;
      conditionals = λ x o. o;
      cases = λ x o. o;
      loops = λ x o. o;
    }

pub keeps-then : (b c d : Bench) → Keeps b c → Keeps c d → Keeps b d
keeps-then b c d h k =
    record {
      file_type = k.file_type ∙ h.file_type;
      id = k.id ∙ h.id;
      exprs = λ x o. k.exprs x (h.exprs x o);
      trees = λ x o. k.trees x (h.exprs x o) ∙ h.trees x o;
      texts = λ x o. k.texts x (h.exprs x o) ∙ h.texts x o;
      types = λ x o. k.types x (h.types x o);
      type_trees = λ x o. k.type_trees x (h.types x o) ∙ h.type_trees x o;
      logic_refs = λ x o. k.logic_refs x (h.logic_refs x o);
      parameters = λ x o. k.parameters x (h.parameters x o);
      localparams = λ x o. k.localparams x (h.localparams x o);
      indexes = λ x o. k.indexes x (h.indexes x o);
      slices = λ x o. k.slices x (h.slices x o);
      macro_refs = λ x o. k.macro_refs x (h.macro_refs x o);
      indexables = λ x o. k.indexables x (h.indexables x o);
      modules = λ x o. k.modules x (h.modules x o);
      ports = λ x o. k.ports x (h.ports x o);
      functions = λ x o. k.functions x (h.functions x o);
      instantiations = λ x o. k.instantiations x (h.instantiations x o);
      always_blocks = λ x o. k.always_blocks x (h.always_blocks x o);
      definitions = λ x o. k.definitions x (h.definitions x o);
      statements = λ x o. k.statements x (h.statements x o);
      continuous = λ x o. k.continuous x (h.continuous x o);
      blank_lines = λ x o. k.blank_lines x (h.blank_lines x o);
      comments = λ x o. k.comments x (h.comments x o);
      inlines = λ x o. k.inlines x (h.inlines x o);
      macro_statements = λ x o. k.macro_statements x (h.macro_statements x o);
      blocks = λ x o. k.blocks x (h.blocks x o);
      conditionals = λ x o. k.conditionals x (h.conditionals x o);
      cases = λ x o. k.cases x (h.cases x o);
      loops = λ x o. k.loops x (h.loops x o);
    }

-- Single growths.

pub keeps-root : (b : Bench) (r : Root) → Keeps b (with_root b r)
keeps-root b r =
    keeps-grown b (with_root b r) (record {
      nodes = Extends-root b.nodes r;
      ports = omega arith;
      assignments = λ i a h. h;
      modules = omega arith;
      definitions = omega arith;
      artifacts = λ i a h. h;
      instances = omega arith;
      nests = λ i below. refl;
      functions = omega arith;
      always_blocks = λ i a h. h;
    }) refl

pub keeps-fresh : (b : Bench) (f : Fresh) → Keeps b (with_fresh f b)
keeps-fresh b f = keeps-grown b (with_fresh f b) (Grows-fresh b f) refl

pub keeps-listing : (b : Bench) (l : Listing) → Keeps b (with_listing l b)
keeps-listing b l = keeps-grown b (with_listing l b) (Grows-listing b l) refl

pub keeps-changed : (b : Bench) (i : ℕ) (f : ModuleRecord → ModuleRecord) → Keeps b (record b { modules = changed_at i f b.modules })
keeps-changed b i f = keeps-grown b (record b { modules = changed_at i f b.modules }) (Grows-changed b i f) refl

pub keeps-unique : (b : Bench) (i : ℕ) (unique : Bool) → Keeps b (record b { nests = changed_at i (with_unique unique) b.nests })
keeps-unique b i unique = keeps-listing b (AsUnique i unique)

pub keeps-cond : (b c d : Bench) (t : Bool) → Keeps b c → Keeps b d → Keeps b (cond t c d)
keeps-cond b c d true h k = h
keeps-cond b c d false h k = k

-- A call of the arenas keeps what the file had where what it leaves keeps it; where memory was refused nothing changed.

pub kept-from : (a b c d : Bench) → c ≡ d → b ≡ a → Keeps b d → Keeps a c
kept-from a b c d end start k = subst (λ x. Keeps x c) start (subst (λ x. Keeps b x) (sym end) k)

pub kept_by :
    {A : Type 0} (old new : ArenaState) (file : Bench) (result : Result A AllocError) (answer : Bench → A) (after : Bench → Bench) →
    GrowsTo old new result answer after → bench old ≡ file → Keeps (bench old) (after (bench old)) → Keeps file (bench new)
kept_by old new file (Ok x) answer after h start k = kept-from file (bench old) (bench new) (after (bench old)) h.1 start k
kept_by old new file (Err fault) answer after h start k = kept-from file (bench old) (bench new) (bench old) h start (keeps-same (bench old))
