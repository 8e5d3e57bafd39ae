-- The rows of variants fit their type.
use Rattle.std.proofs.Common.{ℕ, suc, ◌≡◌, ◌<◌, ◌⊎◌, inl, inr, [], ◌∷◌, Option, Some, None, Bool, true, false, refl, sym, ap, ◌∙◌, if◌then◌else◌}
use Rattle.std.proofs.lemmas.Option.{none-some}
use Rattle.vx_trees.specs.Rose.{node, end, more, label, count}
use Rattle.vx_trees.proofs.LawsOfLists.{heads, tails}
use Rattle.vx_types.specs.Kind as K
use Rattle.vx_types.specs.Typ.{Typ}
use Rattle.vx_types.specs.declared.nullability.Nullability.{Nullability}
use Rattle.vx_array_tree.specs.Encodings.Variants as Variants
use Rattle.vx_array_tree.specs.Encodings.Variants.{row_over, merged_over, valid_over, is_structure}
use Rattle.vx_types.specs.Fits.{Fits}
use Rattle.vx_array_tree.specs.Merge.{merge}
use Rattle.vx_array_tree.specs.FitRows.{FitRows}
use Rattle.vx_array_tree.specs.Place.{place}
use Rattle.vx_array_tree.specs.Tree.{Tree, Trees, places, rows_of, rows_below}
use Rattle.vx_types.specs.Value.{Value, null, opaque, lone, has_opaque, is_null}
use Rattle.vx_array_tree.proofs.MergeFits.{IsGood, IsGoodVariant, merge_good, fallback_good, variant_fits}
use Rattle.vx_array_tree.proofs.Plans.{exactly_is}
use Rattle.vx_array_tree.proofs.RowsFit.{FitAll, retype}

-- A row is a variant, or opaque as a whole.
abbrev IsRow : Nullability → Value → Type 0
IsRow m w = IsGood (node (K.variant m) end) w ⊎ (w ≡ lone opaque)

merged_row : (m : Nullability) (w : Value) → IsGoodVariant w → IsRow m w
merged_row m w g = inl (record { fits = variant_fits m w g.fits; plain = g.plain })

structure_row : (b : Bool) (m : Nullability) (w : Value) → IsGoodVariant w → IsRow m (if b then lone opaque else w)
structure_row true m w g = inr refl
structure_row false m w g = merged_row m w g

-- A typed value that is not null over a core's row.
over_core : (m : Nullability) (e : Typ) (v c : Value) → IsGood e v → is_null v ≡ false → IsRow m c → IsRow m (merged_over e v c)
over_core m e v (node opaque vs) g z k = structure_row (is_structure e) m (merge e v None) (merge_good e v None g z tt)
over_core m e v c g z (inl k) = merged_row m (merge e v (Some c)) (merge_good e v (Some c) g z (fallback_good m c k))
over_core m e v c g z (inr k) = absurd (cc)

tested : (b : Bool) (m : Nullability) (e : Typ) (v c : Value) → has_opaque v ≡ b → is_null v ≡ false → (has_opaque v ≡ false → Fits v e) → IsRow m c → IsRow m (if b then lone opaque else merged_over e v c)
tested true m e v c q z f k = inr refl
tested false m e v c q z f k = over_core m e v c (record { fits = f q; plain = q }) z k

over_is : (m : Nullability) (e : Typ) (v c : Value) → (has_opaque v ≡ false → Fits v e) → IsRow m c → IsRow m (row_over e v c)
over_is m e (node null vs) c f k = k
over_is m e v c f k = tested (has_opaque v) m e v c refl refl f k

row_is : (m : Nullability) (w : Value) → (has_opaque w ≡ false → Fits w (node (K.variant m) end)) → (has_opaque w ≡ false) ⊎ (w ≡ lone opaque) → IsRow m w
row_is m w f (inl p) = inl (record { fits = f p; plain = p })
row_is m w f (inr p) = inr p

row_fits : (m : Nullability) (w : Value) → IsRow m w → has_opaque w ≡ false → Fits w (node (K.variant m) end)
row_fits m w (inl g) h = g.fits
row_fits m w (inr q) h = let z : true ≡ false = ap (λ (x : Value). has_opaque x) (sym q) ∙ h in absurd (cc)

row_whole : (m : Nullability) (w : Value) → IsRow m w → (has_opaque w ≡ false) ⊎ (w ≡ lone opaque)
row_whole m w (inl g) = inl g.plain
row_whole m w (inr q) = inr q

valid_core : (a b : Option Bool) → valid_over a b ≡ Some false → b ≡ Some false
valid_core (Some false) b e = e
valid_core (Some true) b e = let z : true ≡ false = cc in absurd (cc)
valid_core None b e = absurd (cc)

core_fits : (m : Nullability) (n : ℕ) (c : Tree) (us : Trees) → places (more c us) ≡ place (node (K.variant m) end) n ∷ [] → FitAll (more c us) → FitRows (node (K.variant m) end) n (Variants.rows n None (rows_below (more c us)))
core_fits m n c us p f =
    let g = retype c (node (K.variant m) end) n (heads _ _ _ _ p) f.0 in
    record { fits = λ i l h. g.fits i l h; missing = λ i l v. g.missing i l v; whole = λ k i l. g.whole tt i l }

both_fit : (m : Nullability) (n : ℕ) (e : Typ) (c s : Tree) (us : Trees) → places (more c (more s us)) ≡ place (node (K.variant m) end) n ∷ place e n ∷ [] → FitAll (more c (more s us))
    → FitRows (node (K.variant m) end) n (Variants.rows n (Some e) (rows_below (more c (more s us))))
both_fit m n e c s us p f =
    let g = retype c (node (K.variant m) end) n (heads _ _ _ _ p) f.0 in
    let t = retype s e n (heads _ _ _ _ (tails _ _ _ _ p)) f.1.0 in
    let is : (i : ℕ) → i < n → IsRow m (row_over e ((rows_of s).row i) ((rows_of c).row i)) =
    λ i l. over_is m e ((rows_of s).row i) ((rows_of c).row i) (λ h. t.fits i l h) (row_is m ((rows_of c).row i) (λ h. g.fits i l h) (g.whole tt i l)) in
    record {
      fits = λ i l h. row_fits m (row_over e ((rows_of s).row i) ((rows_of c).row i)) (is i l) h;
      missing = λ i l v. g.missing i l (valid_core ((rows_of s).valid i) ((rows_of c).valid i) v);
      whole = λ k i l. row_whole m (row_over e ((rows_of s).row i) ((rows_of c).row i)) (is i l);
    }

planned : (m : Nullability) (n : ℕ) (ts : Trees) → Variants.plan (node (K.variant m) end) n (Variants.metadata_of (places ts)) (count ts) ≡ Some (places ts) → FitAll ts
    → FitRows (node (K.variant m) end) n (Variants.rows n (Variants.metadata_of (places ts)) (rows_below ts))
planned m n end p f = absurd (none-some _ p)
planned m n (more c end) p f = core_fits m n c end (exactly_is (place (node (K.variant m) end) n ∷ []) 1 (places (more c end)) p) f
planned m n (more c (more s us)) p f =
    both_fit m n (label s).dtype c s us (exactly_is (place (node (K.variant m) end) n ∷ place (label s).dtype n ∷ []) (suc (suc (count us))) (places (more c (more s us))) p) f

-- A sound variant node has rows that fit its type, if its children have.
pub variants_fit : (d : Typ) (n : ℕ) (ts : Trees) → Variants.plan d n (Variants.metadata_of (places ts)) (count ts) ≡ Some (places ts) → FitAll ts → FitRows d n (Variants.rows n (Variants.metadata_of (places ts)) (rows_below ts))
variants_fit (node (K.variant m) end) n ts p f = planned m n ts p f
variants_fit _ n ts p f = absurd (cc)
