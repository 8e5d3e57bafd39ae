-- Tables that fit one another still do once one more entry is registered.
use Rattle.std.proofs.Common.{ℕ, ◌≡◌, ◌⊎◌, ◌+◌, ◌||◌, inl, inr, arith, List, [], ◌∷◌, Option, Some, Result, Ok, Err, OnOk, OnErr, Bool, true, false, refl, sym, ap, ◌∙◌, subst}
use Rattle.std.specs.Prelude.{bytes_eq}
use Rattle.std.specs.List.{list_any}
use Rattle.std.specs.Map.{lookup}
use Rattle.vx_array_tree.specs.Encoding as E
use Rattle.vx_array_tree.specs.Encodings.Primitives as Primitives
use Rattle.vx_array_tree.specs.Table.{id_of}
use Rattle.vx_wire_tree.specs.Context.{is_among}
use Rattle.vx_wire_tree.specs.Plugin.{PluginMeaning}
use Rattle.vx_wire_tree.specs.Revised.{revised_name}
use Rattle.vx_wire_tree.specs.Session.{Reader, shipped, revised, plugin, SessionMeaning, IsPaired, IsReadAgainBy, IsRevisedAgainBy}
use Rattle.vx_encodings.specs.declared.encoding.Encoding.{Encoding}
use Rattle.vx_registry.specs.Session.{Registry, ArePaired, AreWithin, both_ids, entry, entry_in, found_with, shipped_id, put_all, registered, with_revised, with_plugin}
use Rattle.vx_registry.specs.declared.error.RegistryError.{RegistryError}
use Rattle.vx_registry.specs.declared.tables.Entry.{Entry}
use Rattle.vx_registry.specs.declared.tables.Entry.TheVariants.{Shipped, Revised, Boxed}
use Rattle.vx_registry.proofs.Meanings.{found_put}
use Rattle.vx_registry.proofs.Putting.{eq_sym, lookup_put, lookup_put_all, which, some_still, some_new, at_true, at_false, is_one, one_is}

-- No encoding has the second identifier of primitives.
never_second : (e : E.Encoding) → bytes_eq (id_of e) revised_name ≡ false
never_second E.null = refl
never_second _ = refl

-- The identifier under which a reader writes and those under which it reads: an encoding's own, or both of primitives;
-- for a plugin any.
abbrev StandsUnder : Reader → List ℕ → List (List ℕ) → Type 0
StandsUnder (shipped e) w ids = (w ≡ id_of e) × (ids ≡ w ∷ [])
StandsUnder revised w ids = (w ≡ Primitives.id) × (ids ≡ both_ids)
StandsUnder (plugin p) w ids = Unit {0}

-- A reader that is put under an identifier is a plugin, or is not put there.
abbrev IsPluginAt : Reader → List (List ℕ) → List ℕ → Type 0
IsPluginAt r ids id = ((p : PluginMeaning) × (r ≡ plugin p)) ⊎ (is_among id ids ≡ false)

module _ (w : List ℕ) (ids : List (List ℕ)) where
  -- This holds under an identifier that is not the reader's own, nor the second of primitives.
  elsewhere : (r : Reader) → StandsUnder r w ids → (id : List ℕ) → is_among id (w ∷ []) ≡ false → bytes_eq id revised_name ≡ false → IsPluginAt r ids id
  elsewhere (shipped f) s id a b = inr (ap (λ z. is_among id z) s.1 ∙ a)
  elsewhere revised s id a b = inr (ap (λ z. is_among id z) s.1 ∙ ap (λ t. bytes_eq id Primitives.id || (t || false)) b ∙ sym (ap (λ z. is_among id (z ∷ [])) s.0) ∙ a)
  elsewhere (plugin p) s id a b = inl (p, refl)

  -- And under the second of primitives, where the reader's own is not their first.
  at_second : (r : Reader) → StandsUnder r w ids → is_among Primitives.id (w ∷ []) ≡ false → IsPluginAt r ids revised_name
  at_second (shipped f) s a = inr (ap (λ z. is_among revised_name z) s.1 ∙ ap (λ z. is_among revised_name (z ∷ [])) s.0 ∙ ap (λ t. t || false) (eq_sym revised_name (id_of f) ∙ never_second f))
  at_second revised s a = let q : true ≡ false = sym (ap (λ z. is_among Primitives.id (z ∷ [])) s.0) ∙ a in absurd (cc)
  at_second (plugin p) s a = inl (p, refl)

-- A session in which a reader was put under identifiers, and made the writer of one.
module _ (old now : SessionMeaning) (r : Reader) (w : List ℕ) (ids : List (List ℕ)) (stands : StandsUnder r w ids)
    (reads : (id : List ℕ) → now.reader id ≡ found_with ids r old.reader id) (writes : (id : List ℕ) → now.writer id ≡ found_with (w ∷ []) r old.writer id) where
  -- What it reads is written: where the new reader is, and where it was before.
  written_still : (q : Reader) (v id : List ℕ) → (r ≡ q → w ≡ v) → (old.reader id ≡ Some q → (z : Reader) × (old.writer v ≡ Some z)) → now.reader id ≡ Some q → (z : Reader) × (now.writer v ≡ Some z)
  written_still q v id new before p =
      let own = is_among v (w ∷ []) in
      elim (which (is_among id ids) r q (old.reader id) (now.reader id) (reads id) p) [
        | inl k ↦ some_new own r (old.writer v) (now.writer v) (writes v) (one_is v w (sym (new k.1)))
        | inr k ↦ some_still own r (old.writer v) (now.writer v) (writes v) (before k.1)
      ]

  -- What it writes stands under its own identifier.
  own_still : (q : Reader) (v id : List ℕ) → (r ≡ q → w ≡ v) → (old.writer id ≡ Some q → id ≡ v) → now.writer id ≡ Some q → id ≡ v
  own_still q v id new before p =
      elim (which (is_among id (w ∷ [])) r q (old.writer id) (now.writer id) (writes id) p) [
        | inl k ↦ is_one id w k.0 ∙ new k.1
        | inr k ↦ before k.1
      ]

  -- The reader that was put under an identifier reads it.
  reads_new : (q : Reader) (id : List ℕ) → r ≡ q → is_among id ids ≡ true → now.reader id ≡ Some q
  reads_new q id e t = at_true (is_among id ids) r (old.reader id) (now.reader id) (reads id) t ∙ ap (λ z. Some z) e

  -- A fact of each plugin, and of what read an identifier before, holds of what reads it now.
  kept_at : (P : Option Reader → Type 0) → ((p : PluginMeaning) → P (Some (plugin p))) → (id : List ℕ) (t : Bool) → is_among id ids ≡ t → IsPluginAt r ids id → P (old.reader id) → P (now.reader id)
  kept_at P all id true e (inl k) h = subst P (sym (reads_new (plugin k.0) id k.1 e)) (all k.0)
  kept_at P all id true e (inr k) h = absurd (cc)
  kept_at P all id false e k h = subst P (sym (at_false (is_among id ids) r (old.reader id) (now.reader id) (reads id) e)) h

  own_shipped : (e : E.Encoding) → r ≡ shipped e → (w ≡ id_of e) × (ids ≡ w ∷ [])
  own_shipped e k = subst (λ z. StandsUnder z w ids) k stands

  own_revised : r ≡ revised → (w ≡ Primitives.id) × (ids ≡ both_ids)
  own_revised k = subst (λ z. StandsUnder z w ids) k stands

  -- The session is paired where the one before was.
  pub paired_with : IsPaired old → IsPaired now
  paired_with h = record {
    read_is_written = λ id e p. written_still (shipped e) (id_of e) id (λ k. (own_shipped e k).0) (λ q. h.read_is_written id e q) p;
    own_identifier = λ id e p. own_still (shipped e) (id_of e) id (λ k. (own_shipped e k).0) (λ q. h.own_identifier id e q) p;
    written_is_read = λ id e p.
        let P : Option Reader → Type 0 = λ z. IsReadAgainBy z e in
        elim (which (is_among id (w ∷ [])) r (shipped e) (old.writer id) (now.writer id) (writes id) p) [
          | inl k ↦ subst P (sym (reads_new (shipped e) id k.1 (ap (λ z. is_among id z) (own_shipped e k.1).1 ∙ k.0))) refl
          | inr k ↦
              let second = ap (λ z. bytes_eq z revised_name) (h.own_identifier id e k.1) ∙ never_second e in
              kept_at P (λ q. tt) id (is_among id ids) refl (elsewhere w ids r stands id k.0 second) (h.written_is_read id e k.1)
        ];
    revised_is_written = λ id p. written_still revised Primitives.id id (λ k. (own_revised k).0) (λ q. h.revised_is_written id q) p;
    own_revised = λ id p. own_still revised Primitives.id id (λ k. (own_revised k).0) (λ q. h.own_revised id q) p;
    revised_is_read = λ p.
        let P : Option Reader → Type 0 = λ z. IsRevisedAgainBy z in
        elim (which (is_among Primitives.id (w ∷ [])) r revised (old.writer Primitives.id) (now.writer Primitives.id) (writes Primitives.id) p) [
          | inl k ↦
              let both = (own_revised k.1).1 in (
                subst P (sym (reads_new revised Primitives.id k.1 (ap (λ z. is_among Primitives.id z) both))) tt,
                subst P (sym (reads_new revised revised_name k.1 (ap (λ z. is_among revised_name z) both))) tt,
              )
          | inr k ↦
              let x = h.revised_is_read k.1 in (
                kept_at P (λ q. tt) Primitives.id (is_among Primitives.id ids) refl (elsewhere w ids r stands Primitives.id k.0 refl) x.0,
                kept_at P (λ q. tt) revised_name (is_among revised_name ids) refl (at_second w ids r stands k.0) x.1,
              )
        ];
  }

-- An entry is put under identifiers, and made the writer of one.
paired_entry : (e : Entry) (w : List ℕ) (ids : List (List ℕ)) (old now : Registry) → now.readers ≡ put_all e ids old.readers → now.writers ≡ put_all e (w ∷ []) old.writers
    → ((f : ℕ → PluginMeaning) → (r : Reader) × (entry_in (λ n. Some (f n)) e ≡ Some r) × StandsUnder r w ids) → ArePaired old → ArePaired now
paired_entry e w ids old now readers writers stands h = λ f x.
    let s = stands f in
    let plugins = λ (n : ℕ). Some (f n) in
    let read = λ (id : List ℕ). found_put plugins e s.0 ids old.readers now.readers id s.1 readers in
    let write = λ (id : List ℕ). found_put plugins e s.0 (w ∷ []) old.writers now.writers id s.1 writers in
    paired_with _ _ s.0 w ids s.2 read write (h f x)

-- An encoding is put under its own identifier.
pub paired_shipped : (e : Encoding) (r : Registry) → ArePaired r → ArePaired (registered e r)
paired_shipped e r h = paired_entry (Shipped e) (shipped_id e) (shipped_id e ∷ []) r (registered e r) refl refl (λ f. (entry e, refl, (refl, refl))) h

-- A plugin is put under identifiers.
pub paired_boxed : (n : ℕ) (i : List ℕ) (ids : List (List ℕ)) (r : Registry) → ArePaired r → ArePaired (with_plugin n i ids r)
paired_boxed n i ids r h = paired_entry (Boxed n) i ids r (with_plugin n i ids r) refl refl (λ f. (plugin (f n), refl, tt)) h

-- Primitives are put under two identifiers.
pub paired_revised : (r : Registry) → ArePaired r → ArePaired (with_revised r)
paired_revised r h = paired_entry Revised Primitives.id both_ids r (with_revised r) refl refl (λ f. (revised, refl, (refl, refl))) h

-- Tables that are equal to paired ones are paired.
pub paired_as : (r q : Registry) → r ≡ q → ArePaired q → ArePaired r
paired_as r q e h = subst (λ z. ArePaired z) (sym e) h

-- ---- numbers of plugins

same_number : (n m : ℕ) → Boxed n ≡ Boxed m → n ≡ m
same_number n m p = cc

no_number : {A : Type 0} (e : Encoding) (n : ℕ) → Shipped e ≡ Boxed n → A
no_number e n p = absurd (cc)

-- The plugin of the last number is put in.
pub within_boxed : (n : ℕ) (i : List ℕ) (ids : List (List ℕ)) (r : Registry) → AreWithin r n → AreWithin (with_plugin n i ids r) (n + 1)
within_boxed n i ids r h = record {
  readers = λ id m p.
      elim (which (list_any (bytes_eq id) ids) (Boxed n) (Boxed m) (lookup (bytes_eq id) r.readers) _ (lookup_put_all (Boxed n) ids id r.readers) p) [
        | inl k ↦ omega (arith, same_number n m k.1)
        | inr k ↦ omega (arith, h.readers id m k.1)
      ];
  writers = λ id m p.
      elim (which (bytes_eq i id) (Boxed n) (Boxed m) (lookup (bytes_eq id) r.writers) _ (lookup_put (Boxed n) i id r.writers) p) [
        | inl k ↦ omega (arith, same_number n m k.1)
        | inr k ↦ omega (arith, h.writers id m k.1)
      ];
}

-- An encoding is put in.
pub within_shipped : (e : Encoding) (k : ℕ) (r : Registry) → AreWithin r k → AreWithin (registered e r) k
within_shipped e k r h = record {
  readers = λ id m p.
      elim (which (bytes_eq (shipped_id e) id) (Shipped e) (Boxed m) (lookup (bytes_eq id) r.readers) _ (lookup_put (Shipped e) (shipped_id e) id r.readers) p) [
        | inl q ↦ no_number e m q.1
        | inr q ↦ h.readers id m q.1
      ];
  writers = λ id m p.
      elim (which (bytes_eq (shipped_id e) id) (Shipped e) (Boxed m) (lookup (bytes_eq id) r.writers) _ (lookup_put (Shipped e) (shipped_id e) id r.writers) p) [
        | inl q ↦ no_number e m q.1
        | inr q ↦ h.writers id m q.1
      ];
}

revised_number : {A : Type 0} (n : ℕ) → Revised ≡ Boxed n → A
revised_number n p = absurd (cc)

-- Primitives are put in under two identifiers.
pub within_revised : (k : ℕ) (r : Registry) → AreWithin r k → AreWithin (with_revised r) k
within_revised k r h = record {
  readers = λ id m p.
      elim (which (list_any (bytes_eq id) both_ids) Revised (Boxed m) (lookup (bytes_eq id) r.readers) _ (lookup_put_all Revised both_ids id r.readers) p) [
        | inl q ↦ revised_number m q.1
        | inr q ↦ h.readers id m q.1
      ];
  writers = λ id m p.
      elim (which (bytes_eq Primitives.id id) Revised (Boxed m) (lookup (bytes_eq id) r.writers) _ (lookup_put Revised Primitives.id id r.writers) p) [
        | inl q ↦ revised_number m q.1
        | inr q ↦ h.writers id m q.1
      ];
}

pub within_as : (r q : Registry) (j k : ℕ) → r ≡ q → j ≡ k → AreWithin q k → AreWithin r j
within_as r q j k e f h = subst (λ z. AreWithin z j) (sym e) (subst (λ z. AreWithin q z) (sym f) h)

-- Whether an entry is put in or not, the numbers stay below k.
pub within_set : (k : ℕ) (old new with_it : Registry) (r : Result (Unit {0}) RegistryError) → OnOk r (new ≡ with_it) → OnErr r (new ≡ old) → AreWithin with_it k → AreWithin old k → AreWithin new k
within_set k old new with_it (Ok u) done left came h = within_as new with_it k k done refl came
within_set k old new with_it (Err x) done left came h = within_as new old k k left refl h

-- What always holds also holds of an Ok result.
pub on_any : {A P : Type 0} (r : Result A RegistryError) → P → OnOk r P
on_any (Ok a) p = p
on_any (Err e) p = tt

-- What follows from an Ok value holds of an Ok result.
pub on_ok : {P Q : Type 0} (r : Result (Unit {0}) RegistryError) → (P → Q) → OnOk r P → OnOk r Q
on_ok (Ok u) f p = f p
on_ok (Err e) f p = tt
