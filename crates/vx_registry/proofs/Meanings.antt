-- The meaning of a session's tables, once an entry is registered.
use Rattle.std.proofs.Common.{ℕ, zero, suc, ◌≡◌, ◌<◌, arith, List, [], ◌∷◌, ◌++◌, Option, Some, None, Bool, true, false, cond, length, refl, sym, ap, ◌∙◌, subst}
use Rattle.std.specs.Prelude.{bytes_eq, option_map, option_and_then, slice_get}
use Rattle.std.specs.List.{list_any}
use Rattle.std.specs.Map.{lookup}
use Rattle.std.proofs.lemmas.Option.{none-some}
use Rattle.vx_types.specs.Known.{ExtMeaning}
use Rattle.vx_wire_tree.specs.Plugin.{PluginMeaning, none}
use Rattle.vx_wire_tree.specs.Session.{SessionMeaning, entry_id, Reader, revised, plugin, IsPaired}
use Rattle.vx_registry.specs.Session.{Registry, Entries, Plugins, ArePaired, AreWithin, entry_in, found, put_all, tables_meaning, both_ids, found_with, no_plugins, shipped_registry, shipped_meaning, with_revised, revised_meaning}
use Rattle.vx_registry.specs.declared.tables.Entry.{Entry}
use Rattle.vx_registry.specs.declared.tables.Entry.TheVariants.{Shipped, Revised, Boxed}
use Rattle.vx_registry.proofs.Putting.{lookup_put_all}

-- ---- the plugins of a list

get_before : {B : Type 0} (bs cs : List B) (n : ℕ) → n < length bs → slice_get (bs ++ cs) n ≡ slice_get bs n
get_before [] cs n h = absurd (omega (arith, h))
get_before (b ∷ bs) cs zero h = refl
get_before (b ∷ bs) cs (suc n) h = get_before bs cs n (omega (arith, h))

get_last : {B : Type 0} (bs : List B) (b : B) → slice_get (bs ++ b ∷ []) (length bs) ≡ Some b
get_last [] b = refl
get_last (x ∷ bs) b = get_last bs b

pub get_within : {B : Type 0} (bs : List B) (n : ℕ) → n < length bs → (b : B) × (slice_get bs n ≡ Some b)
get_within [] n h = absurd (omega (arith, h))
get_within (b ∷ bs) zero h = (b, refl)
get_within (b ∷ bs) (suc n) h = get_within bs n (omega (arith, h))

module _ {B : Type 0} (means : B → PluginMeaning) where
  abbrev of : List B → Plugins
  of bs = λ n. option_map means (slice_get bs n)

  entry_kept : (bs : List B) (b : B) (e : Entry) → ((n : ℕ) → e ≡ Boxed n → n < length bs) → entry_in (of (bs ++ b ∷ [])) e ≡ entry_in (of bs) e
  entry_kept bs b (Shipped e) h = refl
  entry_kept bs b Revised h = refl
  entry_kept bs b (Boxed n) h = ap (λ z. option_map (λ p. plugin p) (option_map means z)) (get_before bs (b ∷ []) n (h n refl))

  found_kept : (bs : List B) (b : B) (o : Option Entry) → ((n : ℕ) → o ≡ Some (Boxed n) → n < length bs) → option_and_then (entry_in (of (bs ++ b ∷ []))) o ≡ option_and_then (entry_in (of bs)) o
  found_kept bs b None h = refl
  found_kept bs b (Some e) h = entry_kept bs b e (λ n p. h n (ap (λ z. Some z) p))

  -- What is found after the plugin of the last number is put under identifiers.
  found_at : (bs : List B) (b : B) (n : ℕ) (t : Bool) (o p : Option Entry) → n ≡ length bs → p ≡ cond t (Some (Boxed n)) o → ((m : ℕ) → o ≡ Some (Boxed m) → m < length bs)
      → option_and_then (entry_in (of (bs ++ b ∷ []))) p ≡ cond t (Some (plugin (means b))) (option_and_then (entry_in (of bs)) o)
  found_at bs b n true o p same e h =
      ap (λ z. option_and_then (entry_in (of (bs ++ b ∷ []))) z) e
      ∙ ap (λ z. option_map (λ q. plugin q) (option_map means z)) (ap (λ z. slice_get (bs ++ b ∷ []) z) same ∙ get_last bs b)
  found_at bs b n false o p same e h = ap (λ z. option_and_then (entry_in (of (bs ++ b ∷ []))) z) e ∙ found_kept bs b o h

  pub found_boxed : (bs cs : List B) (b : B) (n : ℕ) (ids : List (List ℕ)) (table now : Entries) (id : List ℕ) → cs ≡ bs ++ b ∷ [] → n ≡ length bs → now ≡ put_all (Boxed n) ids table
      → ((m : ℕ) → lookup (bytes_eq id) table ≡ Some (Boxed m) → m < length bs)
      → found (of cs) now id ≡ cond (list_any (bytes_eq id) ids) (Some (plugin (means b))) (found (of bs) table id)
  found_boxed bs cs b n ids table now id e same is h =
      ap (λ z. found (of z) now id) e
      ∙ found_at bs b n (list_any (bytes_eq id) ids) (lookup (bytes_eq id) table) (lookup (bytes_eq id) now) same (ap (λ z. lookup (bytes_eq id) z) is ∙ lookup_put_all (Boxed n) ids id table) h

-- What is found after an entry is put under identifiers, where it means a reader whatever plugins there are.
entry_at : (f : Plugins) (e : Entry) (r : Reader) (t : Bool) (o p : Option Entry) → entry_in f e ≡ Some r → p ≡ cond t (Some e) o → option_and_then (entry_in f) p ≡ cond t (Some r) (option_and_then (entry_in f) o)
entry_at f e r true o p m q = ap (λ z. option_and_then (entry_in f) z) q ∙ m
entry_at f e r false o p m q = ap (λ z. option_and_then (entry_in f) z) q

pub found_put : (f : Plugins) (e : Entry) (r : Reader) (ids : List (List ℕ)) (table now : Entries) (id : List ℕ) → entry_in f e ≡ Some r → now ≡ put_all e ids table
    → found f now id ≡ cond (list_any (bytes_eq id) ids) (Some r) (found f table id)
found_put f e r ids table now id m is =
    entry_at f e r (list_any (bytes_eq id) ids) (lookup (bytes_eq id) table) (lookup (bytes_eq id) now) m (ap (λ z. lookup (bytes_eq id) z) is ∙ lookup_put_all e ids id table)

-- ---- what tables that fit one another mean

-- A plugin that reads and writes no array.
idle : PluginMeaning
idle = record {
  id = [];
  declared = [];
  supported = λ id. false;
  serialize = λ t. none;
  plan = λ h x. None;
  build = λ h bs ts x. None;
  one_each = λ h x ps p. absurd (cc);
  as_asked = λ h bs ts x t p all q. absurd (cc);
  plans_again = λ t y x sound normal known p. absurd (cc);
  builds_again = λ t y x sound normal known p. absurd (cc);
}

-- The plugin where there is one, and else the one that does nothing.
abbrev filled : Option PluginMeaning → PluginMeaning
filled None = idle
filled (Some p) = p

filled_is : (o : Option PluginMeaning) → ((p : PluginMeaning) × (o ≡ Some p)) → Some (filled o) ≡ o
filled_is None h = absurd (none-some _ h.1)
filled_is (Some p) h = refl

module _ (f : Plugins) (k : ℕ) (all : (n : ℕ) → n < k → (p : PluginMeaning) × (f n ≡ Some p)) where
  -- What is found stays the same with a plugin for each number, where the numbers in the table are below k.
  found_filled : (o : Option Entry) → ((n : ℕ) → o ≡ Some (Boxed n) → n < k) → option_and_then (entry_in (λ n. Some (filled (f n)))) o ≡ option_and_then (entry_in f) o
  found_filled None h = refl
  found_filled (Some (Shipped e)) h = refl
  found_filled (Some Revised) h = refl
  found_filled (Some (Boxed n)) h = ap (λ z. option_map (λ p. plugin p) z) (filled_is (f n) (all n (h n refl)))

  -- Tables that fit one another, and whose numbers are below k, mean readers and writers that fit one another.
  pub paired_meaning : (r : Registry) → ArePaired r → AreWithin r k → (x : ExtMeaning) → IsPaired (tables_meaning f r x)
  paired_meaning r h w x =
      let read = λ (id : List ℕ). found_filled (lookup (bytes_eq id) r.readers) (λ n q. w.readers id n q) in
      let write = λ (id : List ℕ). found_filled (lookup (bytes_eq id) r.writers) (λ n q. w.writers id n q) in
      let same : tables_meaning (λ n. Some (filled (f n))) r x ≡ tables_meaning f r x = λ i. record { reader = λ id. read id i; writer = λ id. write id i; ext = x } in
      subst (λ z. IsPaired z) same (h (λ n. filled (f n)) x)

-- ---- sessions of boxes

module _ {B : Type 0} (means : B → PluginMeaning) (bs : List B) where
  abbrev of_boxes : Plugins
  of_boxes n = option_map means (slice_get bs n)

  -- Each number below the length has its plugin.
  pub all_there : (n : ℕ) → n < length bs → (p : PluginMeaning) × (of_boxes n ≡ Some p)
  all_there n h = let x = get_within bs n h in (means x.0, ap (λ z. option_map means z) x.1)

-- ---- the shipped encodings, and then primitives under two identifiers

-- The meaning of a session, once they are registered in one that means the shipped encodings.
pub revised_as : (now old : SessionMeaning) (x : ExtMeaning) → old ≡ shipped_meaning x → ((id : List ℕ) → now.reader id ≡ found_with both_ids revised old.reader id)
    → ((id : List ℕ) → now.writer id ≡ found_with (entry_id revised ∷ []) revised old.writer id) → now.ext ≡ x → now ≡ revised_meaning x
revised_as now old x e reads writes ext =
    let r = λ (id : List ℕ).
    reads id ∙ ap (λ (o : SessionMeaning). found_with both_ids revised o.reader id) e
    ∙ sym (found_put no_plugins Revised revised both_ids shipped_registry.readers (with_revised shipped_registry).readers id refl refl)
    in
    let w = λ (id : List ℕ).
    writes id ∙ ap (λ (o : SessionMeaning). found_with (entry_id revised ∷ []) revised o.writer id) e
    ∙ sym (found_put no_plugins Revised revised (entry_id revised ∷ []) shipped_registry.writers (with_revised shipped_registry).writers id refl refl)
    in
    λ i. record { reader = λ id. r id i; writer = λ id. w id i; ext = ext i }
