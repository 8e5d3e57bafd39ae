-- Wire trees of maps: over a list by offsets, which decodes to an array of its own, a map decodes to none.
use Rattle.std.proofs.Common.{ℕ, ◌≡◌, List, [], ◌∷◌, Option, Some, option_map, codes, refl, inl, inr}
use Rattle.vx_flat.specs.Value.{absent}
use Rattle.vx_trees.specs.Rose.{more, end, label}
use Rattle.vx_types.specs.Known.{no_readers}
use Rattle.vx_types.specs.declared.nullability.Nullability.TheVariants.{NonNullable}
use Rattle.vx_numbers.specs.declared.ptype.PType.TheVariants as P
use Rattle.vx_scalars.specs.Stats.{no_stats}
use Rattle.vx_array_tree.specs.Encoding.{Encoding}
use Rattle.vx_array_tree.specs.Encoding as E
use Rattle.vx_array_tree.specs.Metadata as M
use Rattle.vx_array_tree.specs.Place.{place}
use Rattle.vx_array_tree.specs.Table.{encoding_named}
use Rattle.vx_array_tree_tests.proofs.Samples.{i32s, entry, entry_type, list_of, listed, map_type, maps}
use Rattle.vx_array_tree_tests.proofs.SoundSamples.{listed_sound}
use Rattle.vx_wire_tree.specs.Causes.{bad_shape, RefusesTree}
use Rattle.vx_wire_tree.specs.Codec.{Codec}
use Rattle.vx_wire_tree.specs.Fields as F
use Rattle.vx_wire_tree.specs.Fields.{Fields}
use Rattle.vx_wire_tree.specs.Matches.{Matches}
use Rattle.vx_wire_tree.specs.Session.{SessionMeaning, Reader, shipped}
use Rattle.vx_wire_tree.specs.DecodesTo.{DecodesTo}
use Rattle.vx_wire_tree.specs.Written.{wire}

-- No byte shows the kind of offsets, and for lists that there is one element; numbers, structures and maps have no
-- metadata.
abbrev Shows : Encoding → List ℕ → Fields → Type 0
Shows E.list bytes f = (bytes ≡ []) × (f ≡ F.list 1 P.I32)
Shows E.varbin bytes f = (bytes ≡ []) × (f ≡ F.varbin P.I32)
Shows E.primitive bytes F.empty = bytes ≡ []
Shows E.struct bytes F.empty = bytes ≡ []
Shows E.map bytes F.empty = bytes ≡ []
Shows _ bytes f = ⊥

abbrev codec : Codec
codec = record { Shows = Shows; fields_bytes = λ f. []; ShowsStats = λ d f x. x ≡ no_stats; stats_field = λ x. absent; IsStorable = λ x. Unit {0} }

abbrev by_name : List ℕ → Option Reader
by_name id = option_map shipped (encoding_named id)

-- Each encoding is read.
abbrev session : SessionMeaning
session = record { reader = by_name; writer = by_name; ext = no_readers }

numbers_match : (ns : List ℕ) → (label (wire codec session (i32s NonNullable ns []))).id ≡ Some (codes "vortex.primitive")
    → Matches codec session (wire codec session (i32s NonNullable ns [])) (i32s NonNullable ns [])
numbers_match ns e = (
  codes "vortex.primitive",
  e,
  record {
    encoding = refl;
    metadata = record { fields = F.empty; shown = refl; meaning = refl; fair = tt; known = tt };
    buffers = refl;
    stats = refl;
    normal = tt;
    children = refl;
  },
)

-- One entry: a number and a text by its offsets.
entry_matches : Matches codec session (wire codec session entry) entry
entry_matches = (
  codes "vortex.struct",
  refl,
  record {
    encoding = refl;
    metadata = record { fields = F.empty; shown = refl; meaning = refl; fair = tt; known = tt };
    buffers = refl;
    stats = refl;
    normal = tt;
    children = (
      numbers_match (1 ∷ []) refl,
      (
        (
          codes "vortex.varbin",
          refl,
          record {
            encoding = refl;
            metadata = record { fields = F.varbin P.I32; shown = (refl, refl); meaning = refl; fair = refl; known = tt };
            buffers = refl;
            stats = refl;
            normal = tt;
            children = (numbers_match (0 ∷ 1 ∷ []) refl, refl);
          },
        ),
        refl,
      ),
    );
  },
)

listed_matches : Matches codec session (wire codec session listed) listed
listed_matches = (
  codes "vortex.list",
  refl,
  record {
    encoding = refl;
    metadata = record { fields = F.list 1 P.I32; shown = (refl, refl); meaning = refl; fair = refl; known = tt };
    buffers = refl;
    stats = refl;
    normal = tt;
    children = (entry_matches, (numbers_match (0 ∷ 1 ∷ []) refl, refl));
  },
)

-- The list decodes to itself, where a list stands.
listed_told : DecodesTo codec session (wire codec session listed) (list_of entry_type) 1 listed
listed_told = record { matched = listed_matches; dtype = refl; len = refl; sound = listed_sound }

-- As the entries of maps it has the wrong shape, and the cause is at the node of the maps.
list_as_entries : RefusesTree bad_shape codec session (wire codec session (maps listed)) map_type 1
list_as_entries = (
  [],
  record {
    encoding = E.map;
    by = record { id = codes "vortex.map"; id_is = refl; encoding_is = refl };
    value = M.empty;
    metadata = record { fields = F.empty; shown = refl; meaning = refl; fair = tt; known = tt };
    broken = inr (inr (inl (record {
      places_are = place (list_of entry_type) 1 ∷ [];
      plan = refl;
      children = more listed end;
      matched = record { matched = (listed_matches, refl); sound = (listed_sound, tt); placed = refl };
      untaken = λ h. h;
    })));
  },
)
