-- What holds of each session, for the proofs of other crates.
use Rattle.std.proofs.Common.{ℕ, ◌≡◌, inl, inr, List, [], ◌∷◌, Option, Some, None, Bool, true, false, cond, sym, ap, ◌∙◌, subst, refl}
use Rattle.std.specs.Prelude.{bytes_eq, option_and_then, option_map}
use Rattle.std.specs.Map.{lookup}
use Rattle.std.specs.declared.alloc.Global.{Global}
use Rattle.std.specs.declared.dyn_box.DynBox.{DynBox}
use Rattle.vx_types.specs.Known.{ExtMeaning}
use Rattle.vx_array_tree.specs.Encoding as E
use Rattle.vx_wire_tree.specs.Codec.{IsLawful, IsLawfulAt}
use Rattle.vx_wire_tree.specs.Context.{is_among}
use Rattle.vx_wire_tree.specs.Plugin.{PluginMeaning}
use Rattle.vx_wire_tree.specs.Session.{SessionMeaning, Reader, shipped, revised, plugin, encoding_by, entry_id, IsShippedReader, IsShipped, HasPairedPlugins}
use Rattle.vx_encodings.specs.Messages.{codec}
use Rattle.vx_encodings.specs.Plain.{plain_encoding}
use Rattle.vx_encodings.proofs.Laws.{lawful, native, stats_lawful}
use Rattle.vx_registry.specs.Meaning.{plugins_meaning, arrays_meaning}
use Rattle.vx_registry.specs.Session.{Registry, Plugins, both_ids, entry_in, found_with, no_plugins, tables_meaning, shipped_meaning, revised_meaning, shipped_encodings, shipped_registry, with_revised}
use Rattle.vx_registry.specs.declared.array_session.ArraySession.{ArraySession}
use Rattle.vx_registry.specs.declared.tables.Entry.{Entry}
use Rattle.vx_registry.specs.declared.tables.Entry.TheVariants.{Shipped, Revised, Boxed}
use Rattle.vx_registry.proofs.Meanings.{found_put}
use Rattle.vx_registry.proofs.Putting.{which, some_still, some_new, is_one, one_is}
use Rattle.vx_registry.proofs.Shipped.{found_is_shipped}

-- The session of the shipped encodings reads and writes by shipped encodings alone.
pub shipped_alone : (x : ExtMeaning) → IsShipped (shipped_meaning x)
shipped_alone x = record {
  reads = λ id. found_is_shipped no_plugins (bytes_eq id) shipped_encodings;
  writes = λ id. found_is_shipped no_plugins (bytes_eq id) shipped_encodings;
}

also_revised : (t : Bool) (o : Option Reader) → IsShippedReader o → IsShippedReader (cond t (Some revised) o)
also_revised true o h = tt
also_revised false o h = h

-- The same for the session in which primitives have two identifiers.
pub revised_alone : (x : ExtMeaning) → IsShipped (revised_meaning x)
revised_alone x =
    let all = shipped_alone x in
    record {
      reads = λ id.
          subst (λ z. IsShippedReader z) (sym (found_put no_plugins Revised revised both_ids shipped_registry.readers (with_revised shipped_registry).readers id refl refl))
          (also_revised (is_among id both_ids) _ (all.reads id));
      writes = λ id.
          subst (λ z. IsShippedReader z) (sym (found_put no_plugins Revised revised (entry_id revised ∷ []) shipped_registry.writers (with_revised shipped_registry).writers id refl refl))
          (also_revised (is_among id (entry_id revised ∷ [])) _ (all.writes id));
    }

no_encoding : (o : Option PluginMeaning) (e : E.Encoding) → encoding_by (option_map (λ p. plugin p) o) ≡ Some e → ⊥
no_encoding None e p = cc
no_encoding (Some x) e p = cc

lawful_at : (f : Plugins) (o : Option Entry) (e : E.Encoding) → encoding_by (option_and_then (entry_in f) o) ≡ Some e → IsLawfulAt codec e
lawful_at f None e p = absurd (cc)
lawful_at f (Some (Shipped g)) e p = let q : plain_encoding g ≡ e = cc in subst (λ (z : E.Encoding). IsLawfulAt codec z) q (lawful (plain_encoding g) (native g))
lawful_at f (Some Revised) e p = let q : E.primitive ≡ e = cc in subst (λ (z : E.Encoding). IsLawfulAt codec z) q (lawful E.primitive tt)
lawful_at f (Some (Boxed n)) e p = absurd (no_encoding (f n) e p)

-- The encodings by which a session reads have lawful messages of metadata, and the tables of statistics are lawful.
pub registry_lawful : (f : Plugins) (r : Registry) (x : ExtMeaning) → IsLawful codec (tables_meaning f r x)
registry_lawful f r x = record { messages = λ id e p. lawful_at f (lookup (bytes_eq id) r.readers) e p; stats = stats_lawful }

pub session_lawful : {Y : Type 0} {G : Y → Type 0} (means : DynBox Y Global G → PluginMeaning) (s : ArraySession Y G) (x : ExtMeaning) → IsLawful codec (arrays_meaning means s x)
session_lawful means s x = registry_lawful (plugins_meaning means s.plugins.items) s.tables x

-- ---- plugins that read and write

no_plugin : (o : Option Reader) (p : PluginMeaning) → IsShippedReader o → o ≡ Some (plugin p) → ⊥
no_plugin None p h e = cc
no_plugin (Some (shipped f)) p h e = cc
no_plugin (Some revised) p h e = cc
no_plugin (Some (plugin q)) p h e = absurd h

-- Where no plugin reads or writes, no plugin lacks its writer.
pub paired_alone : (s : SessionMeaning) → IsShipped s → HasPairedPlugins s
paired_alone s h = record {
  read_is_written = λ id p e. absurd (no_plugin (s.reader id) p (h.reads id) e);
  own_identifier = λ id p e. absurd (no_plugin (s.writer id) p (h.writes id) e);
}

-- A reader that is put under identifiers, and made the writer of its own, leaves each plugin that reads with its
-- writer, and each that writes under its own identifier.
pub paired_registered : (old now : SessionMeaning) (ids : List (List ℕ)) (r : Reader) → ((id : List ℕ) → now.reader id ≡ found_with ids r old.reader id)
    → ((id : List ℕ) → now.writer id ≡ found_with (entry_id r ∷ []) r old.writer id) → HasPairedPlugins old → HasPairedPlugins now
paired_registered old now ids r reads writes h =
    let own = λ (id : List ℕ). is_among id (entry_id r ∷ []) in
    record {
      read_is_written = λ id p e.
          elim (which (is_among id ids) r (plugin p) (old.reader id) (now.reader id) (reads id) e) [
            | inl k ↦ some_new (own p.id) r (old.writer p.id) (now.writer p.id) (writes p.id) (one_is p.id (entry_id r) (ap (λ q. entry_id q) (sym k.1)))
            | inr k ↦ some_still (own p.id) r (old.writer p.id) (now.writer p.id) (writes p.id) (h.read_is_written id p k.1)
          ];
      own_identifier = λ id p e.
          elim (which (own id) r (plugin p) (old.writer id) (now.writer id) (writes id) e) [
            | inl k ↦ is_one id (entry_id r) k.0 ∙ ap (λ q. entry_id q) k.1
            | inr k ↦ h.own_identifier id p k.1
          ];
    }
