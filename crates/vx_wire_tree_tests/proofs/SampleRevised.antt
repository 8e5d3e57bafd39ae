-- Primitives under two identifiers: four and five rows under each of them, in each session.
use Rattle.std.proofs.Common.{ℕ, ◌≡◌, List, [], ◌∷◌, Option, Some, None, true, false, bytes_eq, if◌then◌else◌, codes, refl, sym, subst, inr}
use Rattle.std.proofs.lemmas.Bool.{false≢true}
use Rattle.std.proofs.lemmas.Option.{same_Some}
use Rattle.vx_buffer.specs.Buffer.{Buffer}
use Rattle.vx_flat.specs.Value.{absent}
use Rattle.vx_trees.specs.Rose.{node, end, label}
use Rattle.vx_types.specs.Known.{no_readers}
use Rattle.vx_types.specs.declared.nullability.Nullability.TheVariants.{NonNullable}
use Rattle.vx_numbers.specs.declared.ptype.PType.TheVariants as P
use Rattle.vx_array_tree.specs.Body as B
use Rattle.vx_array_tree.specs.Encoding as E
use Rattle.vx_array_tree.specs.Metadata as M
use Rattle.vx_array_tree.specs.Tree.{Tree}
use Rattle.vx_array_tree_tests.proofs.Samples.{array, number_type, text_type, buffer, four, i32s, numbers}
use Rattle.vx_wire_tree.specs.Causes.{bad_shape, unknown_encoding, RefusesTree}
use Rattle.vx_wire_tree.specs.Codec.{Codec}
use Rattle.vx_wire_tree.specs.Context.{grown}
use Rattle.vx_wire_tree.specs.Fields as F
use Rattle.vx_wire_tree.specs.Matches.{IsEncodedNode, IsNodeBy, Matches}
use Rattle.vx_wire_tree.specs.ReadBack.{IsReadAs}
use Rattle.vx_wire_tree.specs.Revised.{revised_name, revised_holds, revised_id}
use Rattle.vx_wire_tree.specs.Session.{SessionMeaning, Reader, shipped, revised, entry_id}
use Rattle.vx_wire_tree.specs.Wire.{Wire, ids_in}
use Rattle.vx_wire_tree.specs.Written.{wire, canon, written_id}
use Rattle.vx_wire_tree_tests.proofs.SampleTold.{codec, name}

-- ---- identifiers and lengths

-- The old identifier holds at most four rows, the second any number.
old_holds_four : revised_holds name 4 ≡ true
old_holds_four = refl

old_holds_five : revised_holds name 5 ≡ false
old_holds_five = refl

second_holds_none : revised_holds (codes "vortex.primitive.v2") 0 ≡ true
second_holds_none = refl

second_holds_four : revised_holds (codes "vortex.primitive.v2") 4 ≡ true
second_holds_four = refl

second_holds_five : revised_holds (codes "vortex.primitive.v2") 5 ≡ true
second_holds_five = refl

id_of_four : revised_id 4 ≡ codes "vortex.primitive"
id_of_four = refl

id_of_five : revised_id 5 ≡ codes "vortex.primitive.v2"
id_of_five = refl

-- Primitives under two identifiers write arrays under the old one's entry.
own_id : entry_id revised ≡ codes "vortex.primitive"
own_id = refl

-- ---- sessions

abbrev at_old : Reader → List ℕ → Option Reader
at_old r id = if bytes_eq id name then Some r else None

abbrev at_both : Reader → List ℕ → Option Reader
at_both r id = if bytes_eq id revised_name then Some revised else at_old r id

-- Primitives have one identifier.
abbrev one : SessionMeaning
one = record { reader = at_old (shipped E.primitive); writer = at_old (shipped E.primitive); ext = no_readers }

-- They have two.
abbrev two : SessionMeaning
two = record { reader = at_both revised; writer = at_old revised; ext = no_readers }

-- They had two, and then one was registered.
abbrev one_again : SessionMeaning
one_again = record { reader = at_both (shipped E.primitive); writer = at_old (shipped E.primitive); ext = no_readers }

abbrev four_rows : Tree
four_rows = i32s NonNullable (1 ∷ 2 ∷ 3 ∷ 4 ∷ []) []

abbrev five_rows : Tree
five_rows = i32s NonNullable (1 ∷ 2 ∷ 3 ∷ 4 ∷ 5 ∷ []) []

-- ---- what is written

module _ (c : Codec) where
  one_four : ids_in (wire c one four_rows) ≡ codes "vortex.primitive" ∷ []
  one_four = refl

  one_five : ids_in (wire c one five_rows) ≡ codes "vortex.primitive" ∷ []
  one_five = refl

  two_four : ids_in (wire c two four_rows) ≡ codes "vortex.primitive" ∷ []
  two_four = refl

  two_five : ids_in (wire c two five_rows) ≡ codes "vortex.primitive.v2" ∷ []
  two_five = refl

  again_five : ids_in (wire c one_again five_rows) ≡ codes "vortex.primitive" ∷ []
  again_five = refl

  -- At most four rows are written alike under any session.
  any_four : (s : SessionMeaning) → ids_in (wire c s numbers) ≡ codes "vortex.primitive" ∷ codes "vortex.bool" ∷ []
  any_four s = refl

  -- The second identifier is interned as any other, and refused where it is not allowed.
  two_grown : grown c two (record { ids = []; allowed = None }) five_rows ≡ Some (record { ids = codes "vortex.primitive.v2" ∷ []; allowed = None })
  two_grown = refl

  two_refused : grown c two (record { ids = []; allowed = Some (codes "vortex.primitive" ∷ []) }) five_rows ≡ None
  two_refused = refl

  -- Numbers below a foreign node are read back as they are spelled.
  abbrev foreign_over : Tree → Tree
  foreign_over t = array (text_type NonNullable) 9 (B.foreign (record { id = codes "x.new"; metadata = []; buffers = [] })) (t ∷ [])

  abbrev kept : List ℕ → Tree
  kept id = array (text_type NonNullable) 9 (B.foreign (record { id = id; metadata = c.fields_bytes F.empty; buffers = buffer (four (1 ∷ 2 ∷ 3 ∷ 4 ∷ 5 ∷ [])) 2 ∷ [] })) []

  two_canon : canon c two (foreign_over five_rows) ≡ foreign_over (kept (codes "vortex.primitive.v2"))
  two_canon = refl

  one_canon : canon c one (foreign_over five_rows) ≡ foreign_over (kept (codes "vortex.primitive"))
  one_canon = refl

-- ---- what is read

abbrev four_values : Buffer
four_values = buffer (four (1 ∷ 2 ∷ 3 ∷ 4 ∷ [])) 2

abbrev five_values : Buffer
five_values = buffer (four (1 ∷ 2 ∷ 3 ∷ 4 ∷ 5 ∷ [])) 2

abbrev numbers_node : List ℕ → Buffer → Wire
numbers_node id b = node (record { id = Some id; metadata = []; buffers = Some b ∷ []; stats = absent }) end

four_told : (id : List ℕ) → IsEncodedNode codec two E.primitive (label (numbers_node id four_values)) four_rows (λ us. us ≡ end)
four_told id = record { encoding = refl; metadata = record { fields = F.empty; shown = refl; meaning = refl; fair = tt; known = tt }; buffers = refl; stats = refl; normal = tt; children = refl }

five_told : (s : SessionMeaning) (id : List ℕ) → IsEncodedNode codec s E.primitive (label (numbers_node id five_values)) five_rows (λ us. us ≡ end)
five_told s id = record { encoding = refl; metadata = record { fields = F.empty; shown = refl; meaning = refl; fair = tt; known = tt }; buffers = refl; stats = refl; normal = tt; children = refl }

old_four_matches : Matches codec two (numbers_node (codes "vortex.primitive") four_values) four_rows
old_four_matches = (name, refl, (record { id = name; id_is = refl; holds = refl }, four_told name))

second_four_matches : Matches codec two (numbers_node (codes "vortex.primitive.v2") four_values) four_rows
second_four_matches = (revised_name, refl, (record { id = revised_name; id_is = refl; holds = refl }, four_told revised_name))

second_five_matches : Matches codec two (numbers_node (codes "vortex.primitive.v2") five_values) five_rows
second_five_matches = (revised_name, refl, (record { id = revised_name; id_is = refl; holds = refl }, five_told two revised_name))

-- Five rows match under the old identifier where it is the only one, or is again, and not where there are two.
one_five_matches : Matches codec one (numbers_node (codes "vortex.primitive") five_values) five_rows
one_five_matches = (name, refl, five_told one name)

again_five_matches : Matches codec one_again (numbers_node (codes "vortex.primitive") five_values) five_rows
again_five_matches = (name, refl, five_told one_again name)

old_five_differs : Matches codec two (numbers_node (codes "vortex.primitive") five_values) five_rows → ⊥
old_five_differs (id, e, m) =
    let q : name ≡ id = same_Some name id e in
    let x = subst (λ z. IsNodeBy codec two (two.reader z) (label (numbers_node name five_values)) end five_rows (λ us. us ≡ end)) (sym q) m in
    let holds = subst (λ z. revised_holds z 5 ≡ true) (sym (same_Some name x.0.id x.0.id_is)) x.0.holds in
    false≢true holds

-- The cause is the shape.
old_five_refused : RefusesTree bad_shape codec two (numbers_node (codes "vortex.primitive") five_values) (number_type P.I32 NonNullable) 5
old_five_refused = (
  [],
  record {
    encoding = E.primitive;
    by = record { id = name; id_is = refl; encoding_is = refl };
    value = M.empty;
    metadata = record { fields = F.empty; shown = refl; meaning = refl; fair = tt; known = tt };
    broken = inr (inr (inr (record { by = record { id = name; id_is = refl; reader_is = refl }; past = refl })));
  },
)

-- Where primitives have one identifier, nothing reads the second.
second_unknown : RefusesTree unknown_encoding codec one (numbers_node (codes "vortex.primitive.v2") five_values) (number_type P.I32 NonNullable) 5
second_unknown = ([], record { unregistered = record { id = revised_name; id_is = refl; reader_is = refl }; closed = refl })

-- ---- what is written is read

written_four : IsReadAs (two.reader (written_id two (label four_rows))) E.primitive (written_id two (label four_rows)) 4
written_four = record { encoding = refl; held = refl }

written_five : IsReadAs (two.reader (written_id two (label five_rows))) E.primitive (written_id two (label five_rows)) 5
written_five = record { encoding = refl; held = refl }

written_again : IsReadAs (one_again.reader (written_id one_again (label five_rows))) E.primitive (written_id one_again (label five_rows)) 5
written_again = record { encoding = refl; held = tt }
