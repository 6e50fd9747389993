-- The page spells what the grammar of files does.
use Rattle.std.proofs.Common.{◌≡◌, List, [], true, false, Result, Ok, Err, Bool, codes, refl, IfOk, MatchBool, sym, subst}
use Rattle.vast_literal.specs.FileGrammar.{arrow, is_direction, is_kind, is_sign, is_member_kind, is_local_kind, IsFile, file, OneFile}
use Rattle.vast_literal.specs.NormalFile.{NormalFile}
use Rattle.vast_literal.specs.Tokens.{Token}
use Rattle.vast_rows.specs.declared.rule.Rule.TheVariants.{File}
use Rattle.vast_rows.specs.Events.{Event}
use Rattle.vast_rows.specs.Laws.{Tells, IsRead, IsUnspelled, RowsAreTheGrammar}
use Rattle.vast_rows.specs.Numbers.{rule_number, WireKey, RegKey, LogicKey, IntegerKey, IntKey, GenvarKey, SignedKey, UnsignedKey, InputKey, OutputKey, InOutKey}
use Rattle.vast_rows.specs.Page.{page}
use Rattle.vast_rows.specs.Rows.{Row, bare}
use Rattle.vast_rows.specs.Trace.{trace}
use Rattle.vast_rows.proofs.Bare.{by_page}
use Rattle.vast_rows.proofs.Builds.{trace_is_one}
use Rattle.vast_rows.proofs.Means.{AllMake, folds, ◌&◌}
use Rattle.vast_rows.proofs.Meant.{MeantBy, is_key, is_arrow, is_macro, is_nothing, no_tails, more_tails}
use Rattle.vast_rows.proofs.MakesDeclarations.{declaration0, declaration1, declarator0, declarator1, declarator2, after_word0, after_word1, after_word2, own_type0, signed_name0, signed_name1, grouped_name0, after_groups0, after_groups1, first_groups0, groups0, groups1, group0, group_end0, group_end1}
use Rattle.vast_rows.proofs.MakesStatements.{lone_case0, statements0, statements1, statement0, statement1, statement2, statement3, statement4, after_target0, after_target1, assignment0, choice0, else0, else1, branch0, branch1, unique0, unique1, case0, case1, case2, arms0, arms1, arms2, bare_arms0, bare_arms1, bare_arms2, arm_body0, arm_body1}
use Rattle.vast_rows.proofs.MakesMembers.{file0, file1, item0, item1, item2, item3, parameters0, parameters1, parameter0, ports0, ports1, port0, module_members0, module_members1, loop_members0, loop_members1, member0, member1, member2, member3, member4, member5, member6, member7, member8, member9, member10, member11, member12, member13, member14, member15, awaited0, awaited1, macro0, arguments0, arguments1, expressions0, expressions1, more_expressions0, more_expressions1, semicolon0, semicolon1, after_name0, after_name1, after_name2, after_name3, typed_name0, after_names0, after_names1, after_names2, given_list0, given0, connections0, connections1, connection0, connected0, connected1, events0, events1, event0, event1, event2, inputs0, inputs1, input0, locals0, locals1, local0, function_body0, function_body1, label0, label1, typedef0, type_form0, type_form1, base_sign0, base_sign1, base_groups0, entries0, entries1, entry0, entry_value0, entry_value1, fields0, fields1, field0}
use Rattle.vast_rows.proofs.MembersToRows.{items_to}
use Rattle.vast_rows.proofs.OnePage.{page_once}

-- Each row in its place.
makes : AllMake MeantBy page
unfolding arrow is_direction is_kind is_sign is_member_kind is_local_kind
makes =
    file0 & file1 & item0 & item1 & item2 & item3 & parameters0 & parameters1 & no_tails & more_tails & parameter0 & ports0 & ports1 &
    no_tails & more_tails & port0 & is_key InputKey refl & is_key OutputKey refl & is_key InOutKey refl & module_members0 &
    module_members1 & loop_members0 & loop_members1 & declaration0 & declaration1 & is_key WireKey refl & is_key RegKey refl &
    is_key LogicKey refl & is_key IntegerKey refl & is_key IntKey refl & is_key GenvarKey refl & declarator0 & declarator1 &
    declarator2 & is_key SignedKey refl & is_key UnsignedKey refl & after_word0 & after_word1 & after_word2 & own_type0 &
    signed_name0 & signed_name1 & grouped_name0 & after_groups0 & after_groups1 & first_groups0 & groups0 & groups1 & group0 &
    group_end0 & group_end1 & member0 & member1 & member2 & member3 & member4 & member5 & member6 & member7 & member8 &
    member9 & member10 & member11 & member12 & member13 & member14 & member15 & is_key WireKey refl & is_key RegKey refl & is_key LogicKey refl &
    is_nothing & awaited0 & awaited1 & macro0 &
    is_macro (codes "include") & arguments0 & arguments1 & expressions0 & expressions1 & more_expressions0 & more_expressions1 &
    semicolon0 & semicolon1 & after_name0 & after_name1 & after_name2 & after_name3 & typed_name0 & after_names0 &
    after_names1 & after_names2 & given_list0 & given0 & no_tails & more_tails & connections0 & connections1 &
    connection0 & connected0 & connected1 & no_tails & more_tails & events0 & events1 & event0 & event1 & event2 & no_tails &
    more_tails & inputs0 & inputs1 & input0 & no_tails & more_tails & locals0 & locals1 & local0 & is_key RegKey refl &
    is_key LogicKey refl & function_body0 & function_body1 & lone_case0 & is_nothing & label0 & label1 &
    typedef0 & type_form0 & type_form1 & base_sign0 & base_sign1 & base_groups0 & entries0 & entries1 & entry0 & entry_value0 &
    entry_value1 & no_tails & more_tails & fields0 & fields1 & field0 & statements0 &
    statements1 & statement0 & statement1 & statement2 & statement3 & statement4 & after_target0 & after_target1 &
    assignment0 & is_arrow true & is_arrow false & choice0 &
    else0 & else1 & branch0 & branch1 & unique0 & unique1 & case0 & case1 & case2 & arms0 & arms1 & arms2 & bare_arms0 &
    bare_arms1 & bare_arms2 & arm_body0 & arm_body1 & tt

pub file_to : (ts : List Token) (t : NormalFile) → IsFile ts t → Tells page (rule_number File) ts (trace t [])
unfolding trace
file_to ts t (file items) = items_to items

-- What is told of tokens is the trace of the file that they spell, since they are told alike.
pub rows_are_so : RowsAreTheGrammar
rows_are_so ts es = (from_rows, λ t. subst (λ (v : List Event). Tells page (rule_number File) ts v) (sym t.2) (file_to ts t.0 t.1))
  where
    from_rows : Tells page (rule_number File) ts es → (t : NormalFile) × IsFile ts t × (es ≡ trace t [])
    from_rows p = let r = folds MeantBy (MeantBy (rule_number File)) makes p (λ ps m. m) in
        let t : NormalFile = record { items = r.0 } in
        (t, file r.1, page_once ts es (trace t []) p (file_to ts t (file r.1)))

pub one_file : OneFile
one_file = record { same = λ ts t u p q. trace_is_one t u (page_once ts (trace t []) (trace u []) (file_to ts t p) (file_to ts u q)) }

pub file_read : {K E : Type 0} (rows : List Row) → bare rows ≡ page → (after : K → List Event → K → Type 0) (ts : List Token) (first now : K) (read : Result Bool E) →
    IfOk read (λ b. MatchBool b (IsRead after rows (rule_number File) ts first now) (IsUnspelled rows (rule_number File) ts)) →
    IfOk read (λ b. MatchBool b ((t : NormalFile) × IsFile ts t × after first (trace t []) now) ((t : NormalFile) → IsFile ts t → ⊥))
file_read rows same after ts first now (Ok true) p =
    let t = (rows_are_so ts p.events).0 ((by_page rows page (rule_number File) ts p.events same).0 p.told) in
    (t.0, t.1, subst (λ (v : List Event). after first v now) t.2 p.heard)
file_read rows same after ts first now (Ok false) p = λ t q. p (trace t []) ((by_page rows page (rule_number File) ts (trace t []) same).1 (file_to ts t q))
file_read rows same after ts first now (Err x) p = tt

pub is_file : {E : Type 0} (heard : NormalFile → Type 0) (ts : List Token) (read : Result Bool E) → IfOk read (λ b. MatchBool b ((t : NormalFile) × IsFile ts t × heard t) ((t : NormalFile) → IsFile ts t → ⊥)) →
    IfOk read (λ b. MatchBool b ((t : NormalFile) × IsFile ts t) ((t : NormalFile) → IsFile ts t → ⊥))
is_file heard ts (Ok true) p = (p.0, p.1)
is_file heard ts (Ok false) p = p
is_file heard ts (Err x) p = tt
