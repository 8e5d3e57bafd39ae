-- Primitives under two identifiers: which is written, what it holds, and by what it is read.
use Rattle.std.proofs.Common.{ℕ, ◌≡◌, List, Option, Some, None, Bool, true, false, IsTrue, nat_le, if◌then◌else◌, refl, sym, ap, ◌∙◌, subst}
use Rattle.std.proofs.lemmas.Option.{none-some, same_Some}
use Rattle.vx_array_tree.specs.Body.{Body}
use Rattle.vx_array_tree.specs.Body as B
use Rattle.vx_array_tree.specs.Encoding.{Encoding}
use Rattle.vx_array_tree.specs.Encoding as E
use Rattle.vx_array_tree.specs.Encodings.Primitives as Primitives
use Rattle.vx_array_tree.specs.Table.{encoding_of, id_of, own_id, IsNative}
use Rattle.vx_array_tree.specs.Tree.{Tree, Trees}
use Rattle.vx_trees.specs.Rose.{label}
use Rattle.vx_wire_tree.specs.Codec.{Codec}
use Rattle.vx_wire_tree.specs.Matches.{IsEncodedNode, IsNodeBy}
use Rattle.vx_wire_tree.specs.ReadBack.{IsReadAs}
use Rattle.vx_wire_tree.specs.Revised.{revised_name, revised_holds, revised_id}
use Rattle.vx_wire_tree.specs.Session.{SessionMeaning, Reader, shipped, revised, plugin, encoding_by, IsPaired}
use Rattle.vx_wire_tree.specs.Wire.{WireHead, Wires}
use Rattle.vx_wire_tree.specs.Written.{is_revised, writes_two, id_under, body_id}

-- ---- identifiers and lengths

held_by : (n : ℕ) (b : Bool) → nat_le n 4 ≡ b → IsTrue (revised_holds (if b then Primitives.id else revised_name) n)
held_by n true q = q
held_by n false q = refl

-- The identifier of n rows holds them.
pub holds_own : (n : ℕ) → IsTrue (revised_holds (revised_id n) n)
holds_own n = held_by n (nat_le n 4) refl

either_way : (b : Bool) (x : List ℕ) → (if b then x else x) ≡ x
either_way true x = refl
either_way false x = refl

-- The identifier under which a node of a known encoding is written depends on its encoding and its length.
pub native_under : (two : Bool) (b : Body) (n : ℕ) → IsNative b → body_id two b n ≡ id_under two (encoding_of b) n
native_under two (B.foreign x) n k = absurd k
native_under two _ n k = refl

-- Where primitives are not written under two identifiers, it is the encoding's own.
pub one_under : (e : Encoding) (n : ℕ) → id_under false e n ≡ id_of e
one_under E.primitive n = either_way (nat_le n 4) Primitives.id
one_under _ n = refl

-- And a body's is its own.
pub one_own : (b : Body) (n : ℕ) → body_id false b n ≡ own_id b
one_own (B.foreign x) n = refl
one_own (B.primitive x) n = either_way (nat_le n 4) Primitives.id
one_own _ n = refl

module _ (s : SessionMeaning) where
  -- Where an encoding writes its arrays, it is the encoding's own identifier.
  pub own_under : (e f : Encoding) (n : ℕ) → s.writer (id_of e) ≡ Some (shipped f) → id_under (writes_two s) e n ≡ id_of e
  own_under E.primitive f n w = ap (λ r. id_under (is_revised r) E.primitive n) w ∙ one_under E.primitive n
  own_under _ f n w = refl

  -- Where primitives are written under two, it is the one of their length.
  pub revised_under : (n : ℕ) → s.writer Primitives.id ≡ Some revised → id_under (writes_two s) E.primitive n ≡ revised_id n
  revised_under n w = ap (λ r. id_under (is_revised r) E.primitive n) w

-- ---- reading by an encoding

-- A reader by an encoding reads a node of it as such, where it may read n rows.
pub read_shipped : (r : Option Reader) (e : Encoding) (id : List ℕ) (n : ℕ) → r ≡ Some (shipped e) → IsReadAs r e id n
read_shipped r e id n q = subst (λ z. IsReadAs z e id n) (sym q) (record { encoding = refl; held = tt })

pub read_revised : (r : Option Reader) (id : List ℕ) (n : ℕ) → r ≡ Some revised → IsTrue (revised_holds id n) → IsReadAs r E.primitive id n
read_revised r id n q h = subst (λ z. IsReadAs z E.primitive id n) (sym q) (record { encoding = refl; held = h })

-- What is read as a node of an encoding matches as one.
pub node_by : (c : Codec) (s : SessionMeaning) (r : Option Reader) (e : Encoding) (id : List ℕ) (w : WireHead) (ws : Wires) (t : Tree) (Below : Trees → Type 0)
    → IsReadAs r e id (label t).len → w.id ≡ Some id → IsEncodedNode c s e w t Below → IsNodeBy c s r w ws t Below
node_by c s None e id w ws t Below x i m = absurd (none-some e x.encoding)
node_by c s (Some (shipped f)) e id w ws t Below x i m = let q : f ≡ e = same_Some f e x.encoding in subst (λ (g : Encoding). IsEncodedNode c s g w t Below) (sym q) m
node_by c s (Some revised) e id w ws t Below x i m =
    let q : E.primitive ≡ e = same_Some E.primitive e x.encoding in
    (record { id = id; id_is = i; holds = x.held }, subst (λ (g : Encoding). IsEncodedNode c s g w t Below) (sym q) m)
node_by c s (Some (plugin p)) e id w ws t Below x i m = absurd (none-some e x.encoding)

-- ---- what an encoding reads is written

written_by : (s : SessionMeaning) → IsPaired s → (id : List ℕ) (e : Encoding) (r : Option Reader) → s.reader id ≡ r → encoding_by r ≡ Some e → (q : Reader) × (s.writer (id_of e) ≡ Some q)
written_by s paired id e None r q = let none : None ≡ Some e = q in absurd (cc)
written_by s paired id e (Some (shipped f)) r q = let same : f ≡ e = cc in subst (λ (g : Encoding). (q : Reader) × (s.writer (id_of g) ≡ Some q)) same (paired.read_is_written id f r)
written_by s paired id e (Some revised) r q = let same : E.primitive ≡ e = cc in subst (λ (g : Encoding). (q : Reader) × (s.writer (id_of g) ≡ Some q)) same (paired.revised_is_written id r)
written_by s paired id e (Some (plugin p)) r q = let none : None ≡ Some e = q in absurd (cc)

pub read_is_written : (s : SessionMeaning) → IsPaired s → (id : List ℕ) (e : Encoding) → encoding_by (s.reader id) ≡ Some e → (q : Reader) × (s.writer (id_of e) ≡ Some q)
read_is_written s paired id e q = written_by s paired id e (s.reader id) refl q
