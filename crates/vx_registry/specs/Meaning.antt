-- What a session means.
use Rattle.std.specs.Prelude.{ℕ, Bool, List, [], ◌∷◌, Option, option_map, slice_get}
use Rattle.std.specs.declared.alloc.Global.{Global}
use Rattle.std.specs.declared.dyn_box.DynBox.{DynBox}
use Rattle.vx_types.specs.Known.{ExtMeaning}
use Rattle.vx_types.specs.Typ.{Typ}
use Rattle.vx_type_wire.specs.Session.{ext_meaning}
use Rattle.vx_wire_tree.specs.Plugin.{PluginMeaning}
use Rattle.vx_wire_tree.specs.Session.{Reader, revised, plugin, SessionMeaning}
use Rattle.vx_registry.specs.Session.{Plugins, Registry, both_ids, entry, entry_in, shipped_id, tables_meaning, registered, with_revised, with_plugin}
use Rattle.vx_registry.specs.declared.array_session.ArraySession.{ArraySession}
use Rattle.vx_registry.specs.declared.session.PluginEntry.{PluginEntry}
use Rattle.vx_registry.specs.declared.session.PluginEntry.TheVariants.{Shipped, Revised, Boxed}
use Rattle.vx_registry.specs.declared.session.VortexSession.{VortexSession}
use Rattle.vx_registry.specs.declared.tables.Entry.{Entry}

module _ {Y : Type 0} {G : Y → Type 0} (means : DynBox Y Global G → PluginMeaning) where
  -- The meanings of boxed plugins, by their numbers, as a function of what a box means.
  abbrev pub plugins_meaning : List (DynBox Y Global G) → Plugins
  plugins_meaning boxes = λ n. option_map means (slice_get boxes n)

  -- The meaning of a session's tables and plugins, beside readers of extension types.
  abbrev pub arrays_meaning : ArraySession Y G → ExtMeaning → SessionMeaning
  arrays_meaning s x = tables_meaning (plugins_meaning s.plugins.items) s.tables x

  -- What an entry of a session reads or writes nodes as.
  abbrev pub reader_in : ArraySession Y G → Entry → Option Reader
  reader_in s = entry_in (plugins_meaning s.plugins.items)

  -- What an entry that is to be registered reads or writes nodes as.
  abbrev pub entry_reader : PluginEntry Y G → Reader
  entry_reader (Shipped e) = entry e
  entry_reader Revised = revised
  entry_reader (Boxed b) = plugin (means b)

  -- The identifiers that an entry reads: its encoding's, both of primitives, or those that its plugin declares.
  abbrev pub entry_ids : PluginEntry Y G → List (List ℕ)
  entry_ids (Shipped e) = shipped_id e ∷ []
  entry_ids Revised = both_ids
  entry_ids (Boxed b) = (means b).declared

  -- A registry in which an entry stands under the identifiers that it reads and under that of the arrays that it
  -- writes, each in the place of what stood there or at the end; a plugin stands there by its number.
  abbrev pub with_entry : ℕ → PluginEntry Y G → Registry → Registry
  with_entry n (Shipped e) r = registered e r
  with_entry n Revised r = with_revised r
  with_entry n (Boxed b) r = with_plugin n (means b).id (means b).declared r

  -- The session's tables and plugins read and write arrays, and its boxed readers judge extension types, as a function
  -- of what a box accepts.
  abbrev pub session_meaning : {X : Type 0} {F : X → Type 0} → (DynBox X Global F → List ℕ → Typ → Bool) → VortexSession Y X G F → SessionMeaning
  session_meaning accepted s = arrays_meaning s.arrays (ext_meaning accepted s.ext)
