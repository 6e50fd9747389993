-- Who hears a tree's events, and makes of each what is to be made, ends with the tree on top.
use Rattle.std.proofs.Common.{◌≡◌, ◌∙◌, List, [], ◌∷◌, Option, Some, None, refl, sym, subst, ap}
use Rattle.vast_literal.specs.NormalExpr.{NormalExpr, Name, Literal, Text, MacroAlone, Unary, Binary, Ternary, Index, Slice, PartSelect, MemberOf, Concat, Pattern, Replicated, Call, MacroCall, Cast, PackageCast, WordCast, NormalExprs, NoNormals, MoreNormals}
use Rattle.vast_expressions.specs.Events.{UnaryT, BinaryT, TernaryT, IndexT, SliceT, NoneT, OneT, PushT, ConcatT, PatternT, ReplicatedT, CallT, MacroCallT, CastT, PackageCastT, WordCastT, Event, NameE, LiteralE, TextE, MacroE, WordE, PartSelectE, MemberOfE, Made, trace, traces, mores}
use Rattle.vast_expressions.specs.Internal.Values.{Value, Tree, Trees, Bytes, joined, Grown, grown, grown_one, grown_two, grown_three, grown_part, grown_list, grown_named, grown_replicated, grown_package, grown_first, grown_push}
use Rattle.vast_expressions.specs.Hearing.{HearsAll}

pub joined_none : (xs : NormalExprs) → joined xs NoNormals ≡ xs
unfolding joined
joined_none NoNormals = refl
joined_none (MoreNormals x xs) = ap (MoreNormals x) (joined_none xs)

pub joined_more : (ys xs : NormalExprs) (x : NormalExpr) → joined (joined ys (MoreNormals x NoNormals)) xs ≡ joined ys (MoreNormals x xs)
unfolding joined
joined_more NoNormals xs x = refl
joined_more (MoreNormals y ys) xs x = ap (MoreNormals y) (joined_more ys xs x)

module _ {A : Type 0} (seen : A → List Value) where
  abbrev pub Hears : A → Event → A → Type 0
  Hears a e b = Grown (grown e (seen a)) (seen b)

  -- heard so far, what was made stands on this, and these are still to be heard
  abbrev pub Comes : List Value → List Event → A → Type 0
  Comes vs es c = (b : A) × (seen b ≡ vs) × HearsAll Hears b es c

  next : (e : Event) (vs ws : List Value) (es : List Event) (c : A) → grown e vs ≡ Some ws → Comes vs (e ∷ es) c → Comes ws es c
  next e vs ws es c g (b, p, (d, h, r)) = (d, subst (λ o. Grown o (seen d)) g (subst (λ v. Grown (grown e v) (seen d)) p h), r)

  mutual
    unfolding trace joined grown_one grown_two grown_three grown_part grown_list grown_named grown_replicated grown_package grown_first grown_push

    pub heard_tree : (t : NormalExpr) (vs : List Value) (es : List Event) (c : A) → Comes vs (trace t es) c → Comes (Tree t ∷ vs) es c
    heard_tree (Name w) vs es c r = next (NameE w) vs (Tree (Name w) ∷ vs) es c refl r
    heard_tree (Literal w) vs es c r = next (LiteralE w) vs (Tree (Literal w) ∷ vs) es c refl r
    heard_tree (Text w) vs es c r = next (TextE w) vs (Tree (Text w) ∷ vs) es c refl r
    heard_tree (MacroAlone w) vs es c r = next (MacroE w) vs (Tree (MacroAlone w) ∷ vs) es c refl r
    heard_tree (PartSelect x y n) vs es c r = next (PartSelectE n) (Tree y ∷ (Tree x ∷ vs)) _ es c refl (heard_tree y _ _ c (heard_tree x _ _ c r))
    heard_tree (MemberOf x n) vs es c r = next (MemberOfE n) (Tree x ∷ vs) _ es c refl (heard_tree x _ _ c r)
    heard_tree (Concat xs) vs es c r = next (Made ConcatT) (Trees xs ∷ vs) _ es c refl (heard_trees xs _ _ c r)
    heard_tree (Pattern xs) vs es c r = next (Made PatternT) (Trees xs ∷ vs) _ es c refl (heard_trees xs _ _ c r)
    heard_tree (Replicated n xs) vs es c r = next (Made ReplicatedT) (Trees xs ∷ (Tree n ∷ vs)) _ es c refl (heard_trees xs _ _ c (heard_tree n _ _ c r))
    heard_tree (Call f xs) vs es c r = next (Made CallT) (Trees xs ∷ (Bytes f ∷ vs)) _ es c refl (heard_trees xs (Bytes f ∷ vs) (Made CallT ∷ es) c (next (WordE f) vs (Bytes f ∷ vs) (traces xs (Made CallT ∷ es)) c refl r))
    heard_tree (MacroCall f xs) vs es c r = next (Made MacroCallT) (Trees xs ∷ (Bytes f ∷ vs)) _ es c refl (heard_trees xs (Bytes f ∷ vs) (Made MacroCallT ∷ es) c (next (WordE f) vs (Bytes f ∷ vs) (traces xs (Made MacroCallT ∷ es)) c refl r))
    heard_tree (PackageCast p w x) vs es c r = next (Made PackageCastT) (Tree x ∷ (Bytes w ∷ (Bytes p ∷ vs))) _ es c refl
        (heard_tree x (Bytes w ∷ (Bytes p ∷ vs)) (Made PackageCastT ∷ es) c (next (WordE w) (Bytes p ∷ vs) (Bytes w ∷ (Bytes p ∷ vs)) (trace x (Made PackageCastT ∷ es)) c refl (next (WordE p) vs (Bytes p ∷ vs) (WordE w ∷ trace x (Made PackageCastT ∷ es)) c refl r)))
    heard_tree (Unary o x) vs es c r = next (Made (UnaryT o)) (Tree x ∷ vs) _ es c refl (heard_tree x _ _ c r)
    heard_tree (Binary o x y) vs es c r = next (Made (BinaryT o)) (Tree y ∷ (Tree x ∷ vs)) _ es c refl (heard_tree y _ _ c (heard_tree x _ _ c r))
    heard_tree (Ternary x y z) vs es c r = next (Made (TernaryT)) (Tree z ∷ (Tree y ∷ (Tree x ∷ vs))) _ es c refl (heard_tree z _ _ c (heard_tree y _ _ c (heard_tree x _ _ c r)))
    heard_tree (Index x y) vs es c r = next (Made (IndexT)) (Tree y ∷ (Tree x ∷ vs)) _ es c refl (heard_tree y _ _ c (heard_tree x _ _ c r))
    heard_tree (Slice x y z) vs es c r = next (Made (SliceT)) (Tree z ∷ (Tree y ∷ (Tree x ∷ vs))) _ es c refl (heard_tree z _ _ c (heard_tree y _ _ c (heard_tree x _ _ c r)))
    heard_tree (Cast x y) vs es c r = next (Made (CastT)) (Tree y ∷ (Tree x ∷ vs)) _ es c refl (heard_tree y _ _ c (heard_tree x _ _ c r))
    heard_tree (WordCast k x) vs es c r = next (Made (WordCastT k)) (Tree x ∷ vs) _ es c refl (heard_tree x _ _ c r)

    pub heard_trees : (xs : NormalExprs) (vs : List Value) (es : List Event) (c : A) → Comes vs (traces xs es) c → Comes (Trees xs ∷ vs) es c
    heard_trees NoNormals vs es c r = next (Made NoneT) vs (Trees NoNormals ∷ vs) es c refl r
    heard_trees (MoreNormals x xs) vs es c r = heard_mores xs (MoreNormals x NoNormals) vs es c (next (Made OneT) (Tree x ∷ vs) (Trees (MoreNormals x NoNormals) ∷ vs) _ c refl (heard_tree x _ _ c r))

    heard_mores : (xs ys : NormalExprs) (vs : List Value) (es : List Event) (c : A) → Comes (Trees ys ∷ vs) (mores xs es) c → Comes (Trees (joined ys xs) ∷ vs) es c
    heard_mores NoNormals ys vs es c r = subst (λ zs. Comes (Trees zs ∷ vs) es c) (sym (joined_none ys)) r
    heard_mores (MoreNormals x xs) ys vs es c r = subst (λ zs. Comes (Trees zs ∷ vs) es c) (joined_more ys xs x)
        (heard_mores xs (joined ys (MoreNormals x NoNormals)) vs es c (next (Made PushT) (Tree x ∷ (Trees ys ∷ vs)) (Trees (joined ys (MoreNormals x NoNormals)) ∷ vs) _ c refl (heard_tree x _ _ c r)))

  -- all of a tree's events were heard
  pub heard_one : (t : NormalExpr) (a c : A) → HearsAll Hears a (trace t []) c → seen c ≡ (Tree t ∷ seen a)
  heard_one t a c r = go (heard_tree t (seen a) [] c (a, refl, r))
    where
      go : Comes (Tree t ∷ seen a) [] c → seen c ≡ (Tree t ∷ seen a)
      go (b, p, e) = subst (λ v. seen v ≡ (Tree t ∷ seen a)) e p

-- A tree is told by its events.

kept : Option (List Value) → List Value → List Value
kept None vs = vs
kept (Some ws) vs = ws

kept_grown : (o : Option (List Value)) (vs : List Value) → Grown o (kept o vs)
unfolding kept
kept_grown None vs = tt
kept_grown (Some ws) vs = refl

grow : List Event → List Value → List Value
grow [] vs = vs
grow (e ∷ es) vs = grow es (kept (grown e vs) vs)

heard_grow : (es : List Event) (vs : List Value) → HearsAll (Hears (λ ws. ws)) vs es (grow es vs)
unfolding grow
heard_grow [] vs = refl
heard_grow (e ∷ es) vs = (kept (grown e vs) vs, kept_grown (grown e vs) vs, heard_grow es (kept (grown e vs) vs))

first_tree : List Value → NormalExpr
first_tree (Tree t ∷ vs) = t
first_tree _ = Name []

grown_back : (t : NormalExpr) → first_tree (grow (trace t []) []) ≡ t
unfolding first_tree
grown_back t = ap first_tree (heard_one (λ ws. ws) t [] (grow (trace t []) []) (heard_grow (trace t []) []))

-- Equal events, equal trees.
pub one_events : (a b : NormalExpr) → trace a [] ≡ trace b [] → a ≡ b
one_events a b e = sym (grown_back a) ∙ (ap (λ es. first_tree (grow es [])) e ∙ grown_back b)
