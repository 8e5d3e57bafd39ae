-- Numbered nodes, read with the identifiers and the buffers that they were numbered by, are the tree.
use Rattle.std.proofs.Common.{ℕ, zero, suc, ◌≡◌, ◌+◌, ◌<◌, ◌≤◌, ◌^◌, List, [], ◌∷◌, ◌++◌, Option, Some, length, map, refl, sym, ap, ◌∙◌, subst, arith, add-one, length-append}
use Rattle.std.specs.Prelude.{All, slice_get}
use Rattle.std.proofs.lemmas.List.{append_assoc}
use Rattle.std.proofs.lemmas.List.Elements.{All-nil, All-cons, recursion_from_All}
use Rattle.std.specs.List.{AllByRecursion}
use Rattle.vx_buffer.specs.Buffer.{Buffer}
use Rattle.vx_flat.specs.IsOf.{IsOfKind}
use Rattle.vx_flat.specs.declared.schema.FieldKind.TheVariants.{Table}
use Rattle.vx_trees.specs.Rose.{node, end, more}
use Rattle.vx_trees.specs.Walks.{gathered_below}
use Rattle.vx_trees.specs.Everywhere.{Everywhere, EverywhereBelow}
use Rattle.vx_serialized.specs.ArraySchema.{array_schema}
use Rattle.vx_serde.specs.MessageValue.{IsNumberedNode, IsNumbered}
use Rattle.vx_wire_tree.specs.Wire.{WireHead, Wire, Wires, IsWholeNode, IsWhole, present, id_in, buffers_at_node, ids_in, buffers_in}
use Rattle.vx_serialized.specs.Blob.{wire_of, wires_of}
use Rattle.vx_wire_tree.specs.Context.{index_of}
use Rattle.vx_serde.specs.Numbered.{encoding_index, numbers_from, numbered, numbered_below}

-- The identifier stands at its place, which fits two bytes.
pub record IsPlaced (ids : List (List ℕ)) (id : List ℕ) : Type 0 where
  pub stands : slice_get ids (index_of id ids) ≡ Some id
  pub fits : index_of id ids < 65536

-- Nothing is missing at a node, and its identifier has its place in ids, which fits two bytes.
pub record IsPlacedNode (ids : List (List ℕ)) (h : WireHead) (ws : Wires) : Type 0 where
  pub name : List ℕ
  pub named : h.id ≡ Some name
  pub placed : IsPlaced ids name
  pub standing : List Buffer
  pub stand : h.buffers ≡ map (λ b. Some b) standing

-- ---- from the tree's identifiers to its nodes

left_part : {A : Type 0} (P : A → Type 0) (xs ys : List A) → AllByRecursion P (xs ++ ys) → AllByRecursion P xs
left_part P [] ys h = tt
left_part P (x ∷ xs) ys h = (h.0, left_part P xs ys h.1)

right_part : {A : Type 0} (P : A → Type 0) (xs ys : List A) → AllByRecursion P (xs ++ ys) → AllByRecursion P ys
right_part P [] ys h = h
right_part P (x ∷ xs) ys h = right_part P xs ys h.1

first_of_one : (ids : List (List ℕ)) (o : Option (List ℕ)) (id : List ℕ) (rest : List (List ℕ)) → o ≡ Some id → AllByRecursion (IsPlaced ids) (present (o ∷ []) ++ rest) → IsPlaced ids id
first_of_one ids o id rest e h =
    let P : Option (List ℕ) → Type 0 = λ o. AllByRecursion (IsPlaced ids) (present (o ∷ []) ++ rest) in
    (subst P e h).0

mutual
  placed_by : (ids : List (List ℕ)) (w : Wire) → IsWhole w → AllByRecursion (IsPlaced ids) (ids_in w) → Everywhere (IsPlacedNode ids) w
  placed_by ids (node h ws) clean all = (
    record { name = clean.0.id; named = clean.0.id_is; placed = first_of_one ids h.id clean.0.id (gathered_below id_in ws) clean.0.id_is all; standing = clean.0.buffers; stand = clean.0.buffers_are },
    placed_below ids ws clean.1 (right_part (IsPlaced ids) (id_in h) (gathered_below id_in ws) all),
  )

  placed_below : (ids : List (List ℕ)) (ws : Wires) → EverywhereBelow IsWholeNode ws → AllByRecursion (IsPlaced ids) (gathered_below id_in ws) → EverywhereBelow (IsPlacedNode ids) ws
  placed_below ids end clean all = tt
  placed_below ids (more w ws) clean all = (
    placed_by ids w clean.0 (left_part (IsPlaced ids) (ids_in w) (gathered_below id_in ws) all),
    placed_below ids ws clean.1 (right_part (IsPlaced ids) (ids_in w) (gathered_below id_in ws) all),
  )

-- Each node of a clean tree is placed where all its identifiers are.
pub placed_from_ids : (ids : List (List ℕ)) (w : Wire) → IsWhole w → All (IsPlaced ids) (ids_in w) → Everywhere (IsPlacedNode ids) w
placed_from_ids ids w clean all = placed_by ids w clean (recursion_from_All (IsPlaced ids) (ids_in w) all)

-- ---- numbers fit

number_within : (n k : ℕ) → n + k ≤ 2 ^ 16 → All (λ i. i < 2 ^ 16) (numbers_from n k)
number_within n zero h = All-nil (λ i. i < 2 ^ 16)
number_within n (suc k) h = All-cons (λ i. i < 2 ^ 16) n (numbers_from (suc n) k) (omega (arith, h)) (number_within (suc n) k (omega (arith, h)))

index_within : (ids : List (List ℕ)) (o : Option (List ℕ)) (id : List ℕ) → o ≡ Some id → IsPlaced ids id → encoding_index o ids < 2 ^ 16
index_within ids o id e h =
    let P : Option (List ℕ) → Type 0 = λ o. encoding_index o ids < 2 ^ 16 in
    subst P (sym e) (omega (arith, h.fits))

-- A node's statistics are absent or a table of their kind.
abbrev pub IsTabledNode : WireHead → Wires → Type 0
IsTabledNode h ws = IsOfKind array_schema (Table 2) h.stats

mutual
  -- The nodes' numbers fit two bytes each.
  pub numbered_fits : (ids : List (List ℕ)) (n : ℕ) (w : Wire) → n + length (buffers_in w) ≤ 2 ^ 16 → Everywhere (IsPlacedNode ids) w → Everywhere IsTabledNode w
      → IsNumbered (numbered ids n w)
  numbered_fits ids n (node h ws) fit placed tabled =
      let sum = length-append (present h.buffers) (gathered_below buffers_at_node ws) in (
        record {
          encoding = index_within ids h.id placed.0.name placed.0.named placed.0.placed;
          buffers = number_within n (length (present h.buffers)) (omega (arith, fit, sum));
          stats = tabled.0;
        },
        numbered_below_fits ids (n + length (present h.buffers)) ws (omega (arith, fit, sum)) placed.1 tabled.1,
      )

  numbered_below_fits : (ids : List (List ℕ)) (n : ℕ) (ws : Wires) → n + length (gathered_below buffers_at_node ws) ≤ 2 ^ 16 → EverywhereBelow (IsPlacedNode ids) ws → EverywhereBelow IsTabledNode ws
      → EverywhereBelow IsNumberedNode (numbered_below ids n ws)
  numbered_below_fits ids n end fit placed tabled = tt
  numbered_below_fits ids n (more w ws) fit placed tabled =
      let sum = length-append (buffers_in w) (gathered_below buffers_at_node ws) in
      (numbered_fits ids n w (omega (arith, fit, sum)) placed.0 tabled.0, numbered_below_fits ids (n + length (buffers_in w)) ws (omega (arith, fit, sum)) placed.1 tabled.1)

-- ---- numbers lead back

present-map : (bs : List Buffer) → present (map (λ b. Some b) bs) ≡ bs
present-map [] = refl
present-map (b ∷ bs) = ap (λ r. b ∷ r) (present-map bs)

-- The items that are there are all, where nothing is missing.
present_all : (os : List (Option Buffer)) (bs : List Buffer) → os ≡ map (λ b. Some b) bs → map (λ b. Some b) (present os) ≡ os
present_all os bs e = ap (λ r. map (λ b. Some b) (present r)) e ∙ ap (λ r. map (λ b. Some b) r) (present-map bs) ∙ sym e

middle : (before : List Buffer) (x : Buffer) (after : List Buffer) (n : ℕ) → length before ≡ n → slice_get (before ++ x ∷ after) n ≡ Some x
middle [] x after zero e = refl
middle [] x after (suc n) e = absurd (omega (arith, e))
middle (y ∷ ys) x after zero e = absurd (omega (arith, e))
middle (y ∷ ys) x after (suc n) e = middle ys x after n (omega (arith, e))

by_number : (before bs after : List Buffer) (n : ℕ) → length before ≡ n → map (λ i. slice_get (before ++ (bs ++ after)) i) (numbers_from n (length bs)) ≡ map (λ b. Some b) bs
by_number before [] after n e = refl
by_number before (b ∷ bs) after n e =
    let shift : (before ++ b ∷ []) ++ (bs ++ after) ≡ before ++ (b ∷ (bs ++ after)) = append_assoc before (b ∷ []) (bs ++ after) in
    let first : slice_get (before ++ (b ∷ (bs ++ after))) n ≡ Some b = middle before b (bs ++ after) n e in
    let rest = by_number (before ++ b ∷ []) bs after (suc n) (length-append before (b ∷ []) ∙ ap (λ k. k + 1) e ∙ add-one n) in
    λ i. first i ∷ (ap (λ z. map (λ j. slice_get z j) (numbers_from (suc n) (length bs))) (sym shift) ∙ rest) i

named_by_place : (ids : List (List ℕ)) (o : Option (List ℕ)) (id : List ℕ) → o ≡ Some id → IsPlaced ids id → slice_get ids (encoding_index o ids) ≡ o
named_by_place ids o id e h =
    let P : Option (List ℕ) → Type 0 = λ o. slice_get ids (encoding_index o ids) ≡ o in
    subst P (sym e) h.stands

mutual
  -- The buffers stand in a list with others before and after them, and n is the number of those before.
  pub wire_of-numbered : (ids : List (List ℕ)) (before after : List Buffer) (n : ℕ) (w : Wire) → length before ≡ n → Everywhere (IsPlacedNode ids) w
      → wire_of ids (before ++ (buffers_in w ++ after)) (numbered ids n w) ≡ w
  wire_of-numbered ids before after n (node h ws) e placed =
      let bs = present h.buffers in
      let rest = gathered_below buffers_at_node ws in
      let regroup : before ++ ((bs ++ rest) ++ after) ≡ before ++ (bs ++ (rest ++ after)) = ap (λ z. before ++ z) (append_assoc bs rest after) in
      let passed : before ++ (bs ++ (rest ++ after)) ≡ (before ++ bs) ++ (rest ++ after) = sym (append_assoc before bs (rest ++ after)) in
      let name = named_by_place ids h.id placed.0.name placed.0.named placed.0.placed in
      let buffers = ap (λ z. map (λ i. slice_get z i) (numbers_from n (length bs))) regroup ∙ by_number before bs (rest ++ after) n e ∙ present_all h.buffers placed.0.standing placed.0.stand in
      let l : length (before ++ bs) ≡ n + length bs = length-append before bs ∙ ap (λ k. k + length bs) e in
      let children = ap (λ z. wires_of ids z (numbered_below ids (n + length bs) ws)) (regroup ∙ passed) ∙ wires_of-numbered ids (before ++ bs) after (n + length bs) ws l placed.1 in
      λ i. node (record { id = name i; metadata = h.metadata; buffers = buffers i; stats = h.stats }) (children i)

  wires_of-numbered : (ids : List (List ℕ)) (before after : List Buffer) (n : ℕ) (ws : Wires) → length before ≡ n → EverywhereBelow (IsPlacedNode ids) ws
      → wires_of ids (before ++ (gathered_below buffers_at_node ws ++ after)) (numbered_below ids n ws) ≡ ws
  wires_of-numbered ids before after n end e placed = refl
  wires_of-numbered ids before after n (more w ws) e placed =
      let bs = buffers_in w in
      let rest = gathered_below buffers_at_node ws in
      let regroup : before ++ ((bs ++ rest) ++ after) ≡ before ++ (bs ++ (rest ++ after)) = ap (λ z. before ++ z) (append_assoc bs rest after) in
      let passed : before ++ (bs ++ (rest ++ after)) ≡ (before ++ bs) ++ (rest ++ after) = sym (append_assoc before bs (rest ++ after)) in
      let first = ap (λ z. wire_of ids z (numbered ids n w)) regroup ∙ wire_of-numbered ids before (rest ++ after) n w e placed.0 in
      let l : length (before ++ bs) ≡ n + length bs = length-append before bs ∙ ap (λ k. k + length bs) e in
      let others = ap (λ z. wires_of ids z (numbered_below ids (n + length bs) ws)) (regroup ∙ passed) ∙ wires_of-numbered ids (before ++ bs) after (n + length bs) ws l placed.1 in
      λ i. more (first i) (others i)
