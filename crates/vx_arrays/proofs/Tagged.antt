-- The children of a union node: its tags, and its members; and its rows.
use Rattle.std.proofs.Common.{ℕ, zero, suc, ◌≡◌, ◌≤◌, ◌<◌, ◌+◌, ◌==◌, List, [], ◌∷◌, Option, Some, None, option_map, Bool, true, false, refl, sym, ap, ◌∙◌, subst, length, drop, get_or, arith, add-one}
use Rattle.std.proofs.lemmas.Bool.{false≢true, eq-eqb, ne_eqb}
use Rattle.std.proofs.Math.Nat.{eq-or-lt_of_le}
use Rattle.std.specs.Prelude.{◌↔◌, ◌⊎◌, IsTrue, is_some, if◌then◌else◌, unwrap_or, min}
use Rattle.std.proofs.Common.{inl, inr}
use Rattle.std.proofs.lemmas.Option.{same_Some}
use Rattle.vx_trees.specs.Rose.{node, end, more, label, count, roses_of}
use Rattle.vx_trees.specs.Walks.{nodes, nodes_of}
use Rattle.vx_types.specs.Fits.{member}
use Rattle.vx_types.specs.Kind.{Kind, primitive, union as union_kind}
use Rattle.vx_trees.specs.Rose.{Roses}
use Rattle.vx_trees.proofs.LawsOfLists.{heads, tails}
use Rattle.vx_types.specs.Parts.{Members}
use Rattle.vx_types.specs.Typ.{Typ}
use Rattle.vx_types.specs.Value.{lone, null, opaque, union, natural}
use Rattle.vx_types.specs.declared.nullability.Nullability.{Nullability}
use Rattle.vx_numbers.specs.declared.ptype.PType.TheVariants.{U8}
use Rattle.vx_array_tree.specs.Body as B
use Rattle.vx_array_tree.specs.Encodings.Unions.{Content, HasMember, member_at, member_rows, plan, rows, rows_or_none, tags_of}
use Rattle.vx_array_tree.specs.Place.{Place, place, exactly, places_at}
use Rattle.vx_array_tree.specs.Refused.{IsWellShaped}
use Rattle.vx_array_tree.specs.Rows.{Rows, first, index_at, IsIndex, IsThere, where_valid, cells_where}
use Rattle.vx_array_tree.specs.Sound.{IsSoundNode}
use Rattle.vx_array_tree.specs.Tree.{Head, Tree, Trees, array_place, cells, places, row_at, rows_below, rows_of, untold}
use Rattle.vx_array_tree.proofs.Plans.{exactly_is}
use Rattle.vx_arrays.specs.Unions.{IsTagged, union_head}
use Rattle.vx_array_tree.proofs.LawsOfPlaces.{exactly_self, places_count}

-- ---- what a number names

-- The rows of the member that is named are the member's.
chosen_rows : (b : Bool) (t : Tree) (o : Option Tree) (p : Option Rows) → p ≡ option_map rows_of o → (if b then Some (rows_of t) else p) ≡ option_map rows_of (if b then Some t else o)
chosen_rows true t o p e = refl
chosen_rows false t o p e = e

rows_of_member : (tag : ℕ) (ids : List ℕ) (us : Trees) → member_rows tag ids (rows_below us) ≡ option_map rows_of (member tag ids us)
rows_of_member tag [] us = refl
rows_of_member tag (x ∷ ids) end = refl
rows_of_member tag (x ∷ ids) (more t us) = chosen_rows (tag == x) t (member tag ids us) (member_rows tag ids (rows_below us)) (rows_of_member tag ids us)

mapped_some : {A B : Type 0} (f : A → B) (o : Option A) → is_some (option_map f o) ≡ is_some o
mapped_some f None = refl
mapped_some f (Some x) = refl

some_member : (tag : ℕ) (ids : List ℕ) (us : Trees) → is_some (member_rows tag ids (rows_below us)) ≡ is_some (member tag ids us)
some_member tag ids us = ap (λ (o : Option Rows). is_some o) (rows_of_member tag ids us) ∙ mapped_some rows_of (member tag ids us)

-- The one that is named is one of the trees.
chosen_smaller : (b : Bool) (t : Tree) (us : Trees) (a : Tree) (o : Option Tree) → (Some a ≡ o → nodes a ≤ nodes_of us) → Some a ≡ (if b then Some t else o) → nodes a ≤ nodes_of (more t us)
chosen_smaller true t us a o h e = omega (arith, ap (λ (z : Tree). nodes z) (same_Some a t e))
chosen_smaller false t us a o h e = omega (arith, h e)

named_smaller : (tag : ℕ) (ids : List ℕ) (us : Trees) (a : Tree) → Some a ≡ member tag ids us → nodes a ≤ nodes_of us
named_smaller tag [] us a e = absurd (cc)
named_smaller tag (x ∷ ids) end a e = absurd (cc)
named_smaller tag (x ∷ ids) (more t us) a e = chosen_smaller (tag == x) t us a (member tag ids us) (λ q. named_smaller tag ids us a q) e

no_places : (p : Place) (ps : List Place) → p ∷ ps ≡ [] → ⊥
no_places p ps e = absurd (cc)

some_places : (p : Place) (ps : List Place) → [] ≡ p ∷ ps → ⊥
some_places p ps e = absurd (cc)

chosen_len : (b : Bool) (t : Tree) (n : ℕ) (a : Tree) (o : Option Tree) → (label t).len ≡ n → (Some a ≡ o → (label a).len ≡ n) → Some a ≡ (if b then Some t else o) → (label a).len ≡ n
chosen_len true t n a o l h e = ap (λ (z : Tree). (label z).len) (same_Some a t e) ∙ l
chosen_len false t n a o l h e = h e

named_len : (tag : ℕ) (ids : List ℕ) (us : Trees) (ds : Roses Kind) (n : ℕ) (a : Tree) → places us ≡ places_at ds n → Some a ≡ member tag ids us → (label a).len ≡ n
named_len tag [] us ds n a p e = absurd (cc)
named_len tag (x ∷ ids) end ds n a p e = absurd (cc)
named_len tag (x ∷ ids) (more t us) end n a p e = absurd (no_places _ _ p)
named_len tag (x ∷ ids) (more t us) (more d ds) n a p e =
    chosen_len (tag == x) t n a (member tag ids us) (ap (λ (z : Place). z.len) (heads _ _ _ _ p)) (λ q. named_len tag ids us ds n a (tails _ _ _ _ p) q) e

-- ---- the tags one by one

named_first : (tag x : ℕ) (ids : List ℕ) (t : Tree) (us : Trees) → x ≡ tag → Some t ≡ member tag (x ∷ ids) (more t us)
named_first tag x ids t us e = sym (ap (λ b. if b then Some t else member tag ids us) (eq-eqb tag x (sym e)))

named_later : (tag x : ℕ) (ids : List ℕ) (t : Tree) (us : Trees) → (x ≡ tag → ⊥) → member tag (x ∷ ids) (more t us) ≡ member tag ids us
named_later tag x ids t us e = ap (λ b. if b then Some t else member tag ids us) (ne_eqb tag x (λ q. e (sym q)))

found_suc : (tag : ℕ) (ids : List ℕ) (ts : List Tree) (i x : ℕ) (t : Tree) → i < length ids → i < length ts → get_or ids i x ≡ tag → Some (get_or ts i t) ≡ member tag (drop i ids) (roses_of (drop i ts))
found_suc tag [] ts i x t h k e = absurd (omega (arith, h))
found_suc tag (y ∷ ids) [] i x t h k e = absurd (omega (arith, k))
found_suc tag (y ∷ ids) (u ∷ ts) zero x t h k e = named_first tag y ids u (roses_of ts) e
found_suc tag (y ∷ ids) (u ∷ ts) (suc i) x t h k e = found_suc tag ids ts i x t (omega (arith, h)) (omega (arith, k)) e

next_suc : (tag : ℕ) (ids : List ℕ) (ts : List Tree) (i x : ℕ) → i < length ids → i < length ts → (get_or ids i x ≡ tag → ⊥) → member tag (drop i ids) (roses_of (drop i ts)) ≡ member tag (drop (suc i) ids) (roses_of (drop (suc i) ts))
next_suc tag [] ts i x h k e = absurd (omega (arith, h))
next_suc tag (y ∷ ids) [] i x h k e = absurd (omega (arith, k))
next_suc tag (y ∷ ids) (u ∷ ts) zero x h k e = named_later tag y ids u (roses_of ts) e
next_suc tag (y ∷ ids) (u ∷ ts) (suc i) x h k e = next_suc tag ids ts i x (omega (arith, h)) (omega (arith, k)) e

-- The one at which the search stands has the tag, and is found.
pub named_here : (tag : ℕ) (ids : List ℕ) (ts : List Tree) (i x : ℕ) (a : Tree) → i < min (length ids) (length ts) → member tag (drop i ids) (roses_of (drop i ts)) ≡ member tag ids (roses_of ts)
    → x ≡ get_or ids i x → a ≡ get_or ts i a → x ≡ tag → Some a ≡ member tag ids (roses_of ts)
named_here tag ids ts i x a h q e f g =
    ap (λ (z : Tree). Some z) f ∙ found_suc tag ids ts i x a (omega (arith, h)) (omega (arith, h)) (sym e ∙ g) ∙ q

-- Else it goes on.
pub named_next : (tag : ℕ) (ids : List ℕ) (ts : List Tree) (i x : ℕ) → i < min (length ids) (length ts) → member tag (drop i ids) (roses_of (drop i ts)) ≡ member tag ids (roses_of ts)
    → (get_or ids i x ≡ tag → ⊥) → member tag (drop (i + 1) ids) (roses_of (drop (i + 1) ts)) ≡ member tag ids (roses_of ts)
named_next tag ids ts i x h q f = rw (add-one i) (sym (next_suc tag ids ts i x (omega (arith, h)) (omega (arith, h)) f) ∙ q)

none_at_end : (tag : ℕ) (xs : List ℕ) → member {A = Head} tag xs end ≡ None
none_at_end tag [] = refl
none_at_end tag (x ∷ xs) = refl

none_left : (tag : ℕ) (xs : List ℕ) (us : List Tree) (j : ℕ) → min (length xs) (length us) ≤ j → member tag (drop j xs) (roses_of (drop j us)) ≡ None
none_left tag [] us zero l = refl
none_left tag [] us (suc j) l = refl
none_left tag (x ∷ xs) [] zero l = refl
none_left tag (x ∷ xs) [] (suc j) l = none_at_end tag (drop j xs)
none_left tag (x ∷ xs) (u ∷ us) zero l = absurd (omega (arith, l))
none_left tag (x ∷ xs) (u ∷ us) (suc j) l = none_left tag xs us j (omega (arith, l))

-- At the end none has it.
pub named_none : (tag : ℕ) (ids : List ℕ) (ts : List Tree) (i : ℕ) → min (length ids) (length ts) ≤ i → member tag (drop i ids) (roses_of (drop i ts)) ≡ member tag ids (roses_of ts) → None ≡ member tag ids (roses_of ts)
named_none tag ids ts i h q = sym (none_left tag ids ts i h) ∙ q

pub ruleset naming = (named_here, named_next, named_none)

-- ---- what is of that shape

module _ (v : Members) (m : Nullability) (n : ℕ) where
  abbrev pub union_places : List Place
  union_places = place (node (primitive U8 m) end) n ∷ places_at (roses_of v.types) n

  union_shaped : (ts : Trees) → places ts ≡ union_places → IsWellShaped (union_head v m n) ts
  union_shaped ts e =
      record {
        fair = tt;
        planned = ap (λ k. exactly union_places k) (sym (places_count ts) ∙ ap (λ (ps : List Place). length ps) e) ∙ exactly_self union_places ∙ ap (λ (ps : List Place). Some ps) (sym e);
        allows = tt;
        takes = tt;
        holds = tt;
      }

  shaped_union : (ts : Trees) → IsWellShaped (union_head v m n) ts → places ts ≡ union_places
  shaped_union ts s = exactly_is union_places (count ts) (places ts) s.planned

  -- Without tags there is no such node.
  pub without_tags : (ts : List Tree) → length ts < 1 → IsTrue false ↔ IsWellShaped (union_head v m n) (roses_of ts)
  without_tags [] h = (λ x. absurd (false≢true x), λ s. absurd (some_places _ _ (shaped_union end s)))
  without_tags (t ∷ ts) h = absurd (omega (arith, h))

  module _ (ts : Trees) (t : Tree) (us : Trees) (e : ts ≡ more t us) where
    both_places : array_place t ≡ place (node (primitive U8 m) end) n → places us ≡ places_at (roses_of v.types) n → places (more t us) ≡ union_places
    both_places p q = λ i. p i ∷ q i

    -- With tags it is the members that decide, and with others none do.
    pub members_decide : (r : Bool) → array_place t ≡ place (node (primitive U8 m) end) n → (IsTrue r ↔ (places us ≡ places_at (roses_of v.types) n)) → IsTrue r ↔ IsWellShaped (union_head v m n) ts
    members_decide r p g = (
      λ x. subst (λ (zs : Trees). IsWellShaped (union_head v m n) zs) (sym e) (union_shaped (more t us) (both_places p (g.0 x))),
      λ s. g.1 (tails _ _ _ _ (shaped_union (more t us) (subst (λ (zs : Trees). IsWellShaped (union_head v m n) zs) e s))),
    )

    pub other_tags : (b : Bool) → (IsTrue b ↔ (array_place t ≡ place (node (primitive U8 m) end) n)) → b ≡ false → IsTrue b ↔ IsWellShaped (union_head v m n) ts
    other_tags b g q = (
      λ x. absurd (false≢true (sym q ∙ x)),
      λ s. absurd (false≢true (sym q ∙ g.1 (heads _ _ _ _ (shaped_union (more t us) (subst (λ (zs : Trees). IsWellShaped (union_head v m n) zs) e s))))),
    )

-- ---- what a node is made of

-- A union type, and the places of its tags and members.
pub record IsOfMembers (d : Typ) (n : ℕ) (ts : Trees) : Type 0 where
  pub kind : Nullability
  pub types : Roses Kind
  pub stand : places ts ≡ place (node (primitive U8 kind) end) n ∷ places_at types n

of_members : (d : Typ) (n : ℕ) (ts : Trees) → plan d n (count ts) ≡ Some (places ts) → IsOfMembers d n ts
of_members (node (union_kind ns ids m) ds) n ts p =
    record { kind = m; types = ds; stand = exactly_is (place (node (primitive U8 m) end) n ∷ places_at ds n) (count ts) (places ts) p }
of_members _ n ts p = absurd (cc)

has_first : (d : Typ) (n : ℕ) (us : List Tree) → IsOfMembers d n (roses_of us) → 1 ≤ length us
has_first d n [] o = absurd (some_places _ _ o.stand)
has_first d n (u ∷ us) o = omega arith

pub shaped_some : (d : Typ) (n : ℕ) (us : List Tree) → IsWellShaped (untold d n B.union) (roses_of us) → 1 ≤ length us
shaped_some d n us s = has_first d n us (of_members d n (roses_of us) s.planned)

pub sound_some : (d : Typ) (n : ℕ) (us : List Tree) → IsSoundNode (untold d n B.union) (roses_of us) → 1 ≤ length us
sound_some d n us s = has_first d n us (of_members d n (roses_of us) s.planned)

module _ (d : Typ) (n : ℕ) (ts us : Trees) (t : Tree) (e : more t us ≡ ts) where
  split_places : IsOfMembers d n ts → IsOfMembers d n (more t us)
  split_places o = subst (λ (zs : Trees). IsOfMembers d n zs) (sym e) o

  tags_len : IsOfMembers d n (more t us) → (label t).len ≡ n
  tags_len o = ap (λ (p : Place). p.len) (heads _ _ _ _ o.stand)

  pub shaped_tags : IsWellShaped (untold d n B.union) ts → (label t).len ≡ n
  shaped_tags s = tags_len (split_places (of_members d n ts s.planned))

  pub sound_tags : IsSoundNode (untold d n B.union) ts → (label t).len ≡ n
  sound_tags s = tags_len (split_places (of_members d n ts s.planned))

  pub tags_rows : rows_of t ≡ first (rows_below ts)
  tags_rows = ap (λ (zs : Trees). first (rows_below zs)) e

  pub tags_smaller : nodes t ≤ nodes_of ts
  tags_smaller = omega (arith, ap (λ (zs : Trees). nodes_of zs) e)

  -- ---- its content

  has_tag : (i : ℕ) → IsThere (rows_of t).valid i → IsTagged (tags_of d) (rows_of t) us i → HasMember d (rows_below (more t us)) i
  has_tag i there g =
      let k = g there in
      record { tag = k.0; named = some_member (index_at (rows_of t) i) (tags_of d) us ∙ k.1 }

  tag_has : (i : ℕ) → HasMember d (rows_below (more t us)) i → IsIndex (rows_of t) i × IsTrue (is_some (member (index_at (rows_of t) i) (tags_of d) us))
  tag_has i g = (g.tag, sym (some_member (index_at (rows_of t) i) (tags_of d) us) ∙ g.named)

  pub all_tagged : (i : ℕ) → n ≤ i → ((k : ℕ) → k < i → IsTagged (tags_of d) (rows_of t) us k) → Content d n (rows_below ts)
  all_tagged i h g = subst (λ (zs : Trees). Content d n (rows_below zs)) e (λ k l there. has_tag k there (g k (omega (arith, h, l))))

  pub content_tagged : Content d n (rows_below ts) → (k : ℕ) → k < n → IsTagged (tags_of d) (rows_of t) us k
  content_tagged c k l = λ there. tag_has k (subst (λ (zs : Trees). Content d n (rows_below zs)) (sym e) c k l there)

  pub one_untagged : (i : ℕ) → i < n → (IsTagged (tags_of d) (rows_of t) us i → ⊥) → Content d n (rows_below ts) → ⊥
  one_untagged i l f c = f (content_tagged c i l)

  -- ---- its rows

  module _ (s : IsSoundNode (untold d n B.union) ts) (i : ℕ) (l : i < n) (there : IsThere (first (rows_below ts)).valid i) where
    there_is : IsThere (rows_of t).valid i
    there_is = ap (λ (r : Rows). r.valid i) tags_rows ∙ there

    right : IsIndex (rows_of t) i × IsTrue (is_some (member (index_at (rows_of t) i) (tags_of d) us))
    right = content_tagged s.content i l there_is

    -- Where a row is valid its tag is a number, and this names a member.
    pub no_number : None ≡ natural (row_at t i) → ⊥
    no_number q = false≢true (ap (λ (o : Option ℕ). is_some o) q ∙ right.0)

    module _ (number : ℕ) (q : Some number ≡ natural (row_at t i)) where
      index_is : number ≡ index_at (rows_of t) i
      index_is = ap (λ (o : Option ℕ). unwrap_or o 0) q

      pub no_member : None ≡ member number (tags_of d) us → ⊥
      no_member f =
          false≢true (ap (λ (o : Option Tree). is_some o) (f ∙ ap (λ k. member k (tags_of d) us) index_is) ∙ right.1)

      module _ (tag : ℕ) (a : Tree) (g : tag ≡ number) (f : Some a ≡ member number (tags_of d) us) where
        member_is : Some (rows_of a) ≡ member_at d (rows_below (more t us)) i
        member_is =
            ap (λ (o : Option Tree). option_map rows_of o) f ∙ sym (rows_of_member number (tags_of d) us)
            ∙ ap (λ k. member_rows k (tags_of d) (rows_below us)) index_is

        pub tagged_value : node (union tag) (more (row_at a i) end) ≡ (rows d n (rows_below ts)).row i
        tagged_value =
            (λ j. node (union ((g ∙ index_is) j)) (more ((rows_or_none (member_is j)).row i) end))
            ∙ ap (λ (b : Option Bool). where_valid b (λ k. node (union (index_at (rows_of t) k)) (more ((rows_or_none (member_at d (rows_below (more t us)) k)).row k) end)) i) (sym there_is)
            ∙ ap (λ (zs : Trees). (rows d n (rows_below zs)).row i) e

        pub tagged_cells : suc (cells a i) ≡ (rows d n (rows_below ts)).cells i
        tagged_cells =
            (λ j. suc ((rows_or_none (member_is j)).cells i))
            ∙ ap (λ (b : Option Bool). cells_where b (λ k. suc ((rows_or_none (member_at d (rows_below (more t us)) k)).cells k)) i) (sym there_is)
            ∙ ap (λ (zs : Trees). (rows d n (rows_below zs)).cells i) e

        pub tagged_there : i < (label a).len
        tagged_there =
            let o = split_places (of_members d n ts s.planned) in
            omega (arith, l, named_len number (tags_of d) us o.types n a (tails _ _ _ _ o.stand) f)

        pub tagged_smaller : nodes a ≤ nodes_of ts
        tagged_smaller = omega (arith, named_smaller number (tags_of d) us a f, ap (λ (zs : Trees). nodes_of zs) e)

-- What holds of each number below one, and of this, holds of each below the next.
at_or_below : (P : ℕ → Type 0) (i k : ℕ) → ((j : ℕ) → j < i → P j) → P i → (k ≡ i) ⊎ (k < i) → P k
at_or_below P i k h p (inl q) = subst (λ j. P j) (sym q) p
at_or_below P i k h p (inr l) = h k l

pub one_more : (P : ℕ → Type 0) (i : ℕ) → ((j : ℕ) → j < i → P j) → P i → (k : ℕ) → k < i + 1 → P k
one_more P i h p k l = at_or_below P i k h p (eq-or-lt_of_le (omega (arith, l)))

-- A row that is not there is null, and one of which that is not known is opaque.
module _ (d : Typ) (n i : ℕ) (ts : Trees) (r : Rows) (q : r ≡ first (rows_below ts)) where
  valid_is : (b : Option Bool) → b ≡ r.valid i → b ≡ (first (rows_below ts)).valid i
  valid_is b h = h ∙ ap (λ (z : Rows). z.valid i) q

  pub unknown_value : None ≡ r.valid i → lone opaque ≡ (rows d n (rows_below ts)).row i
  unknown_value h = ap (λ (b : Option Bool). where_valid b (λ k. node (union (index_at (first (rows_below ts)) k)) (more ((rows_or_none (member_at d (rows_below ts) k)).row k) end)) i) (valid_is None h)

  pub unknown_cells : None ≡ r.valid i → 1 ≡ (rows d n (rows_below ts)).cells i
  unknown_cells h = ap (λ (b : Option Bool). cells_where b (λ k. suc ((rows_or_none (member_at d (rows_below ts) k)).cells k)) i) (valid_is None h)

  pub null_value : Some false ≡ r.valid i → lone null ≡ (rows d n (rows_below ts)).row i
  null_value h = ap (λ (b : Option Bool). where_valid b (λ k. node (union (index_at (first (rows_below ts)) k)) (more ((rows_or_none (member_at d (rows_below ts) k)).row k) end)) i) (valid_is (Some false) h)

  pub null_cells : Some false ≡ r.valid i → 1 ≡ (rows d n (rows_below ts)).cells i
  null_cells h = ap (λ (b : Option Bool). cells_where b (λ k. suc ((rows_or_none (member_at d (rows_below ts) k)).cells k)) i) (valid_is (Some false) h)

  pub valid_there : Some true ≡ r.valid i → IsThere (first (rows_below ts)).valid i
  valid_there h = sym (valid_is (Some true) h)

-- What rows of unions rest on.
pub ruleset tagged = (sound_some, sound_tags, tags_rows, tags_smaller, unknown_value, unknown_cells, null_value, null_cells, valid_there)

pub ruleset contents = (shaped_some, shaped_tags)
