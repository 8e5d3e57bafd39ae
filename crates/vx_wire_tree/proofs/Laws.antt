-- The laws of wire trees, for the crates above.
use Rattle.std.proofs.Common.{ℕ, ◌≡◌, ◌+◌, ◌<◌, ◌≤◌, List, [], ◌∷◌, ◌++◌, Some, None, IsTrue, sym, ap, ◌∙◌, take, length, get_or}
use Rattle.vx_buffer.specs.Buffer.{Buffer}
use Rattle.vx_trees.specs.Rose.{node, label, count, roses_of, roses_list}
use Rattle.vx_trees.specs.Walks.{levels}
use Rattle.vx_types.specs.Typ.{Typ}
use Rattle.vx_array_tree.specs.Body as B
use Rattle.vx_array_tree.specs.Canon.{stats_written, KeepsStats}
use Rattle.vx_array_tree.specs.Encoding.{Encoding}
use Rattle.vx_array_tree.specs.Encoding as E
use Rattle.vx_array_tree.specs.Normal.{IsNormal}
use Rattle.vx_array_tree.specs.Place.{Place}
use Rattle.vx_array_tree.specs.Sound.{IsSound}
use Rattle.vx_array_tree.specs.Table.{buffers_of, metadata_of}
use Rattle.vx_array_tree.specs.Tree.{Tree, Trees, places, rows_of, untold}
use Rattle.vx_array_tree.proofs.CanonLaws as Canon
use Rattle.vx_array_tree.proofs.CanonPlaces.{canon_dtype, canon_len}
use Rattle.vx_wire_tree.specs.KnownTypes.{KnowsTypes}
use Rattle.vx_wire_tree.specs.Causes.{HasChildren, Refusal, plugin_refused, RefusesTree}
use Rattle.vx_wire_tree.specs.Codec.{Codec, HasLawfulStats, IsLawful, metadata_bytes}
use Rattle.vx_wire_tree.specs.Fields.{told}
use Rattle.vx_wire_tree.specs.Context.{Context, grown_by, grown}
use Rattle.vx_wire_tree.specs.Kept.{IsKeptAs, AreKeptAs}
use Rattle.vx_wire_tree.specs.Limits.{HasMessages}
use Rattle.vx_wire_tree.specs.Matches.{Matches, AllMatch}
use Rattle.vx_wire_tree.specs.ReadBack.{IsUnread, IsWritten, HasCountableMetadata, HasStorableStats}
use Rattle.vx_wire_tree.specs.Revised.{revised_holds}
use Rattle.vx_wire_tree.specs.Session.{SessionMeaning, IsShipped, IsPaired, shipped, revised}
use Rattle.vx_wire_tree.specs.Steps.{PlansChildren, HasParts, IsToldBy}
use Rattle.vx_wire_tree.specs.DecodesTo.{DecodesTo}
use Rattle.vx_wire_tree.specs.Wire.{Wire, Wires, WireHead, IsWhole, ids_in, all_present}
use Rattle.vx_wire_tree.specs.Returns.{IsOwnCanon, Returns}
use Rattle.vx_wire_tree.specs.Taken.{taken, IsTaken, Unwritten, HasUntaken}
use Rattle.vx_wire_tree.specs.Written.{writes_two, body_id, spelled, wire, canon}
use Rattle.vx_wire_tree.proofs.Built as Built
use Rattle.vx_wire_tree.proofs.Kept as Kept
use Rattle.vx_wire_tree.proofs.Matched as Matched
use Rattle.vx_wire_tree.proofs.NeverRefused as NeverRefused
use Rattle.vx_wire_tree.proofs.PluginsAgain as PluginsAgain
use Rattle.vx_wire_tree.proofs.ReadAgain as ReadAgain
use Rattle.vx_wire_tree.proofs.TakenOwn as TakenOwn
use Rattle.vx_wire_tree.proofs.TwoIdentifiers.{read_shipped, read_revised}
use Rattle.vx_wire_tree.proofs.Unique as Unique
use Rattle.vx_wire_tree.proofs.WrittenAlike as WrittenAlike
-- The places of what is written of arrays are those of the arrays.
pub use Rattle.vx_wire_tree.proofs.TakenPlaces.{places_taken}
-- Where primitives are not written under two identifiers, a body is written under its own.
pub use Rattle.vx_wire_tree.proofs.TwoIdentifiers.{one_own}
-- A node that a plugin reads decodes to what the plugin builds.
pub use Rattle.vx_wire_tree.proofs.Plugins.{plugin_decodes}
-- What is written of an array that is read back matches its canon.
pub use Rattle.vx_wire_tree.proofs.ReadAgain.{written_matches}

module _ (c : Codec) (s : SessionMeaning) where
  -- A foreign node is spelled as what it keeps.
  pub own_spelling : Canon.SpellsOwn (spelled c s)
  own_spelling h ts x e = ap (λ b. record { id = body_id (writes_two s) b h.len; metadata = metadata_bytes c (told (metadata_of b (places ts))); buffers = buffers_of b }) e

  -- A sound normal array is read back as itself where its statistics are kept, and as itself but for statistics in any
  -- case. It is written as what is read back of it.
  pub canon_own : (t : Tree) → IsSound t → IsNormal t → KeepsStats t → canon c s t ≡ t
  canon_own t x n k = Canon.canon_own (spelled c s) own_spelling t x n k

  pub canon_written : (t : Tree) → IsSound t → IsNormal t → canon c s t ≡ stats_written t
  canon_written t x n = Canon.canon_written (spelled c s) own_spelling t x n

  pub canon_wire : HasLawfulStats c → (t : Tree) → IsSound t → IsNormal t → wire c s (canon c s t) ≡ wire c s t
  canon_wire law t x n = ap (λ u. wire c s u) (canon_written t x n) ∙ WrittenAlike.wire_alike c law s t

  pub canon_grown : HasLawfulStats c → (ctx : Context) (t : Tree) → IsSound t → IsNormal t → grown c s ctx (canon c s t) ≡ grown c s ctx t
  canon_grown law ctx t x n = ap (λ w. grown_by (ids_in w) ctx) (canon_wire law t x n)

  -- What is read back of a sound array is sound and normal, has its rows, and is read back as itself.
  pub canon_sound : (t : Tree) → IsSound t → IsSound (canon c s t)
  canon_sound t x = Canon.canon_sound (spelled c s) t x

  pub canon_normal : (t : Tree) → IsSound t → IsNormal (canon c s t)
  canon_normal t x = Canon.canon_normal (spelled c s) t x

  pub canon_rows : (t : Tree) → IsSound t → rows_of (canon c s t) ≡ rows_of t
  canon_rows t x = Canon.canon_rows (spelled c s) t x

  pub canon_twice : (t : Tree) → IsSound t → canon c s (canon c s t) ≡ canon c s t
  canon_twice t x = Canon.canon_twice (spelled c s) own_spelling t x

  -- Wire trees match as many arrays as there are trees.
  pub matched_count : (ws : Wires) (ts : Trees) → AllMatch c s ws ts → count ts ≡ count ws
  matched_count ws ts m = Unique.all_count c s ws ts m

  -- Nothing is missing in a wire tree that matches an array.
  pub matched_whole : (w : Wire) (t : Tree) → Matches c s w t → IsWhole w
  matched_whole w t m = NeverRefused.whole c s w t m

  -- A wire tree decodes to at most one array of a type and a length.
  pub one_tree : IsLawful c s → (w : Wire) (d : Typ) (n : ℕ) (t u : Tree) → DecodesTo c s w d n t → DecodesTo c s w d n u → t ≡ u
  one_tree law w d n t u x y = Unique.one_tree c s law w t u x.matched y.matched x.sound y.sound (x.dtype ∙ sym y.dtype) (x.len ∙ sym y.len)

  -- Where it decodes to one, no cause of a refusal holds.
  pub never_refused : IsLawful c s → (r : Refusal) (w : Wire) (d : Typ) (n : ℕ) (t : Tree) → DecodesTo c s w d n t → RefusesTree r c s w d n → ⊥
  never_refused law r w d n t x k = NeverRefused.never_refused c s law r w d n t x k

  module _ (ok : IsShipped s) where
    -- An array that matches a wire tree is in the normal form throughout.
    pub matched_normal : IsLawful c s → (w : Wire) (t : Tree) → Matches c s w t → IsNormal t
    matched_normal law w t m = Unique.matched_normal c s law ok w t m

    -- The types in the metadata of an array that matches a wire tree are known.
    pub matched_types : (w : Wire) (t : Tree) → Matches c s w t → KnowsTypes s.ext t
    matched_types w t m = Matched.matched_types c s ok w t m

    module _ (law : IsLawful c s) where
      -- Its nodes are written, and nothing reads its topmost foreign ones.
      pub matched_written : IsPaired s → (w : Wire) (t : Tree) → Matches c s w t → IsWritten s t
      matched_written p w t m = Matched.matched_written c s ok law p w t m

      pub matched_unread : (w : Wire) (t : Tree) → Matches c s w t → IsUnread s t
      matched_unread w t m = Matched.matched_unread c s ok law w t m

      -- The wire tree of a sound array decodes to what is read back of it, where each of its nodes is written, its
      -- metadata fits its message, whose bytes can be counted, the types in it are known, and its statistics can be
      -- stored; and nothing reads its topmost foreign nodes.
      pub told_again : IsPaired s → (t : Tree) → IsSound t → IsUnread s t → IsWritten s t → HasMessages t → HasCountableMetadata c t → KnowsTypes s.ext t → HasStorableStats c t
          → DecodesTo c s (wire c s t) (label t).dtype (label t).len (canon c s t)
      told_again p t x u w m n k b = record {
        matched = ReadAgain.written_matches c s law t x (ReadAgain.reads_back c s ok p t u w m n k b);
        dtype = canon_dtype (spelled c s) (label t).dtype t;
        len = canon_len (spelled c s) (label t).dtype t;
        sound = Canon.canon_sound (spelled c s) t x;
      }

  -- A node whose children decode to arrays where they are planned decodes to the array that is built of its parts, with
  -- the statistics that its field shows.
  pub node_decodes : IsLawful c s → (id : List ℕ) (e : Encoding) (w : WireHead) (ws : Wires) (d : Typ) (n : ℕ) (ps : List Place) (bs : List Buffer) (ts : Trees) (t u : Tree)
      → w.id ≡ Some id → s.reader id ≡ Some (shipped e) → PlansChildren c s.ext e d n w.metadata (count ws) ps → w.buffers ≡ all_present bs
      → HasChildren c s (node w ws) ps ts → HasParts c s.ext e d n w.metadata bs ts t → IsSound t → IsToldBy c d w.stats t u → DecodesTo c s (node w ws) d n u
  node_decodes law id e w ws d n ps bs ts t u i r p b k x y z = Built.node_decodes c s law id e w ws d n ps bs ts t u i (read_shipped (s.reader id) e id n r) p b k x y z

  -- The same for a node of primitives under two identifiers, whose identifier holds its length.
  pub revised_decodes : IsLawful c s → (id : List ℕ) (w : WireHead) (ws : Wires) (d : Typ) (n : ℕ) (ps : List Place) (bs : List Buffer) (ts : Trees) (t u : Tree)
      → w.id ≡ Some id → s.reader id ≡ Some revised → IsTrue (revised_holds id n) → PlansChildren c s.ext E.primitive d n w.metadata (count ws) ps → w.buffers ≡ all_present bs
      → HasChildren c s (node w ws) ps ts → HasParts c s.ext E.primitive d n w.metadata bs ts t → IsSound t → IsToldBy c d w.stats t u → DecodesTo c s (node w ws) d n u
  revised_decodes law id w ws d n ps bs ts t u i r h p b k x y z = Built.node_decodes c s law id E.primitive w ws d n ps bs ts t u i (read_revised (s.reader id) id n r h) p b k x y z

  -- A wire tree whose root nothing reads, under a session that allows such nodes, decodes to the array that is kept of
  -- it.
  pub kept_decodes : (id : List ℕ) (w : Wire) (d : Typ) (n : ℕ) (t : Tree) → (label w).id ≡ Some id → s.reader id ≡ None → IsTrue s.ext.unknown → IsKeptAs w d n t → DecodesTo c s w d n t
  kept_decodes id w d n t i r allowed k = Kept.kept_decodes c s id w d n t i r allowed k

-- Take an array that is its own canon, in which types are known, and that returns. What encodings and plugins write of
-- it decodes to it, where the bytes of the metadata that is written can be counted.
pub returned : (c : Codec) (s : SessionMeaning) → IsLawful c s → IsPaired s → (n : ℕ) (t : Tree) → IsOwnCanon c s t → Returns c s n t → HasCountableMetadata c (taken s n t) → Matches c s (wire c s (taken s n t)) t
returned c s law paired n t own r counted = PluginsAgain.returned c s law paired (own_spelling c s) n t (PluginsAgain.own_of c s law paired (own_spelling c s) t own) r counted

-- What is written of an array has at most one level more than the descent goes down, whatever plugins give. Where no
-- plugin writes, an array that is written within the levels is written unchanged.
pub taken_within : (s : SessionMeaning) (n : ℕ) (t : Tree) → levels (taken s n t) ≤ n + 1
taken_within s n t = TakenOwn.taken_within s n t

pub taken_own : (s : SessionMeaning) → IsShipped s → (n : ℕ) (t : Tree) → IsTaken s n t → levels (taken s n t) ≤ n → taken s n t ≡ t
taken_own s ok n t k l = TakenOwn.taken_own s ok n t k l

-- Then each of its nodes has a writer, or is a foreign one that is allowed.
pub taken_written : (s : SessionMeaning) → IsShipped s → (n : ℕ) (t : Tree) → IsTaken s n t → levels (taken s n t) ≤ n → IsWritten s t
taken_written s ok n t k l = TakenOwn.taken_written s ok n t k l

-- And where each of its nodes has a writer, or is such a foreign one, it is written unchanged within the levels, and no
-- node is left unwritten.
pub taken_whole : (s : SessionMeaning) → IsShipped s → (n : ℕ) (t : Tree) → IsWritten s t → levels t ≤ n → taken s n t ≡ t
taken_whole s ok n t w l = TakenOwn.taken_whole s ok n t w l

pub never_untaken : (s : SessionMeaning) → IsShipped s → (n : ℕ) (why : Unwritten) (t : Tree) → IsWritten s t → HasUntaken s n why t → ⊥
never_untaken s ok n why t w k = TakenOwn.never_untaken s ok n why t w k

-- And no plugin refuses a wire tree there.
pub no_plugin_refuses : (c : Codec) (s : SessionMeaning) → IsShipped s → (w : Wire) (d : Typ) (n : ℕ) → RefusesTree plugin_refused c s w d n → ⊥
no_plugin_refuses c s ok w d n k = NeverRefused.no_plugin_refuses c s ok w d n k

-- The foreign node of a node's parts, over children that are kept, is kept.
pub kept_node : (id : List ℕ) (w : WireHead) (ws : Wires) (d : Typ) (n : ℕ) (metadata : List ℕ) (bs : List Buffer) (ts : Trees) → w.id ≡ Some id → metadata ≡ w.metadata → w.buffers ≡ all_present bs
    → AreKeptAs ws d n ts → let t : Tree = node (untold d n (B.foreign (record { id = id; metadata = metadata; buffers = bs }))) ts in IsSound t → IsKeptAs (node w ws) d n t
kept_node id w ws d n metadata bs ts i m b k sound = Kept.kept_node id w ws d n metadata bs ts i m b k sound

-- One child more is kept, and in the end all of them are.
pub kept-snoc : (ws : List Wire) (d : Typ) (n : ℕ) (i : ℕ) (w : Wire) (us vs : Trees) (u : Tree) → i < length ws → AreKeptAs (roses_of (take i ws)) d n us → w ≡ get_or ws i w → IsKeptAs w d n u
    → roses_list vs ≡ roses_list us ++ u ∷ [] → AreKeptAs (roses_of (take (i + 1) ws)) d n vs
kept-snoc ws d n i w us vs u h k f x e = Kept.kept-snoc ws d n i w us vs u h k f x e

pub all_kept : (ws : List Wire) (d : Typ) (n : ℕ) (i : ℕ) (us : Trees) → length ws ≤ i → AreKeptAs (roses_of (take i ws)) d n us → AreKeptAs (roses_of ws) d n us
all_kept ws d n i us h k = Kept.all_kept ws d n i us h k
