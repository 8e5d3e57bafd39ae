-- The registry of the shipped encodings.
use Rattle.std.proofs.Common.{ℕ, ◌≡◌, List, [], ◌∷◌, ◌++◌, Option, Some, Bool, true, false, cond, map, refl, sym, ap, ◌∙◌, take, length, ◌+◌, ◌<◌, ◌≤◌, slice_index_or}
use Rattle.std.specs.Prelude.{bytes_eq, option_and_then}
use Rattle.std.specs.Map.{lookup}
use Rattle.std.proofs.lemmas.List.{take_all, take_more}
use Rattle.vx_wire_tree.specs.Session.{IsShippedReader}
use Rattle.vx_encodings.specs.declared.encoding.Encoding.{Encoding}
use Rattle.vx_registry.specs.Session.{Registry, Entries, Plugins, AreWithin, entry_in, shipped_id, put, registered, shipped_encodings, shipped_registry}
use Rattle.vx_registry.specs.declared.tables.Entry.{Entry}
use Rattle.vx_registry.specs.declared.tables.Entry.TheVariants.{Shipped, Boxed}

-- Encodings under their own identifiers.
abbrev pub own_entries : List Encoding → Entries
own_entries es = map (λ e. (shipped_id e, Shipped e)) es

-- The entries once encodings are put in one after the other, each under its own identifier.
abbrev pub put_in : Entries → List Encoding → Entries
put_in m [] = m
put_in m (e ∷ es) = put_in (put (Shipped e) (shipped_id e) m) es

pub put_in-snoc : (m : Entries) (es : List Encoding) (e : Encoding) → put_in m (es ++ e ∷ []) ≡ put (Shipped e) (shipped_id e) (put_in m es)
put_in-snoc m [] e = refl
put_in-snoc m (x ∷ xs) e = put_in-snoc (put (Shipped x) (shipped_id x) m) xs e

-- No two of the shipped encodings have the same identifier.
pub all_in : put_in [] shipped_encodings ≡ own_entries shipped_encodings
all_in = refl

-- The tables of a session into which these encodings were put.
abbrev pub tables_of : List Encoding → Registry
tables_of es = record { readers = put_in [] es; writers = put_in [] es }

-- The tables with one encoding more.
pub tables_of-snoc : (es : List Encoding) (e : Encoding) → tables_of (es ++ e ∷ []) ≡ registered e (tables_of es)
tables_of-snoc es e = ap (λ m. record { readers = m; writers = m }) (put_in-snoc [] es e)

-- The tables with the next encoding of a list, after those before it.
pub next_tables : (es : List Encoding) (i : ℕ) (d : Encoding) (r : Registry) → i < length es → r ≡ tables_of (take i es) → registered (slice_index_or es i d) r ≡ tables_of (take (i + 1) es)
next_tables es i d r here e =
    ap (λ z. registered (slice_index_or es i d) z) e ∙ sym (tables_of-snoc (take i es) (slice_index_or es i d)) ∙ ap (λ z. tables_of z) (sym (take_more es i d here))

-- The tables with all encodings.
pub all_tables : (n : ℕ) → length shipped_encodings ≤ n → tables_of (take n shipped_encodings) ≡ shipped_registry
all_tables n h = ap (λ es. tables_of es) (take_all n shipped_encodings h) ∙ ap (λ m. record { readers = m; writers = m }) all_in

-- ---- no plugin stands among encodings

shipped_of : (b : Bool) (e : Encoding) (o : Option Entry) (n : ℕ) → cond b (Some (Shipped e)) o ≡ Some (Boxed n) → o ≡ Some (Boxed n)
shipped_of true e o n p = absurd (cc)
shipped_of false e o n p = p

never_boxed : (test : List ℕ → Bool) (es : List Encoding) (n : ℕ) → lookup test (own_entries es) ≡ Some (Boxed n) → ⊥
never_boxed test [] n p = cc
never_boxed test (e ∷ es) n p = never_boxed test es n (shipped_of (test (shipped_id e)) e (lookup test (own_entries es)) n p)

-- So no number stands in the tables of the shipped encodings.
pub shipped_within : (r : Registry) (k : ℕ) → r ≡ shipped_registry → AreWithin r k
shipped_within r k e = record {
  readers = λ id n p. absurd (never_boxed (bytes_eq id) shipped_encodings n (ap (λ z. lookup (bytes_eq id) z.readers) (sym e) ∙ p));
  writers = λ id n p. absurd (never_boxed (bytes_eq id) shipped_encodings n (ap (λ z. lookup (bytes_eq id) z.writers) (sym e) ∙ p));
}

shipped_by : (f : Plugins) (b : Bool) (e : Encoding) (o : Option Entry) → IsShippedReader (option_and_then (entry_in f) o) → IsShippedReader (option_and_then (entry_in f) (cond b (Some (Shipped e)) o))
shipped_by f true e o h = tt
shipped_by f false e o h = h

-- What is found there is shipped.
pub found_is_shipped : (f : Plugins) (test : List ℕ → Bool) (es : List Encoding) → IsShippedReader (option_and_then (entry_in f) (lookup test (own_entries es)))
found_is_shipped f test [] = tt
found_is_shipped f test (e ∷ es) = shipped_by f (test (shipped_id e)) e (lookup test (own_entries es)) (found_is_shipped f test es)
