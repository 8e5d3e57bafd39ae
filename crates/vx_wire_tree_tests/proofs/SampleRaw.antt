-- Wire trees with nodes that nothing reads: what they decode to, what is written and read back, and the causes.
use Rattle.std.proofs.Common.{ℕ, ◌≡◌, List, [], ◌∷◌, Option, Some, None, Bool, true, false, bytes_eq, if◌then◌else◌, codes, replicate, refl, arith, sym, ap, ◌∙◌, subst}
use Rattle.std.proofs.lemmas.Bool.{true≢false, false≢true}
use Rattle.std.proofs.lemmas.Option.{same_Some}
use Rattle.vx_buffer.specs.Buffer.{Buffer}
use Rattle.vx_flat.specs.Value.{absent, text}
use Rattle.vx_trees.specs.Rose.{node, end, more, label, below}
use Rattle.vx_types.specs.Typ.{Typ}
use Rattle.vx_types.specs.Value.{lone, opaque}
use Rattle.vx_types.specs.declared.nullability.Nullability.TheVariants.{Nullable, NonNullable}
use Rattle.vx_numbers.specs.declared.ptype.PType.TheVariants as P
use Rattle.vx_scalars.proofs.LawsStats.{none_fit}
use Rattle.vx_array_tree.specs.Body.{Body}
use Rattle.vx_array_tree.specs.Body as B
use Rattle.vx_array_tree.specs.Encoding as E
use Rattle.vx_array_tree.specs.Encodings.Foreigns as Foreigns
use Rattle.vx_array_tree.specs.Metadata as M
use Rattle.vx_array_tree.specs.Place.{place}
use Rattle.vx_array_tree.specs.Sound.{metadata_in}
use Rattle.vx_array_tree.specs.Tree.{Tree}
use Rattle.vx_array_tree.proofs.LawsControls.{native_controlled}
use Rattle.vx_array_tree_tests.proofs.SampleForeigns.{foreign}
use Rattle.vx_array_tree_tests.proofs.Samples.{array, buffer, four, number_type, flag_type, text_type, i32s, first_rows, numbers}
use Rattle.vx_wire_tree.specs.Causes.{IsUnregistered, unknown_encoding, foreign_control, RefusesTree}
use Rattle.vx_wire_tree.specs.Codec.{Codec, metadata_bytes}
use Rattle.vx_wire_tree.specs.Fields as F
use Rattle.vx_wire_tree.specs.Fields.{told}
use Rattle.vx_wire_tree.specs.Matches.{IsRawNode, IsRaw, IsEncodedNode, IsNodeBy, Matches, AllMatch}
use Rattle.vx_wire_tree.specs.Placed.{HoldsAt}
use Rattle.vx_wire_tree.specs.ReadBack.{IsWrittenNode, IsUnread, ReadsBack}
use Rattle.vx_wire_tree.specs.Taken.{step, unwritten, unregistered}
use Rattle.vx_wire_tree.specs.Session.{SessionMeaning, Reader, shipped}
use Rattle.vx_wire_tree.specs.Wire.{Wire, all_present, ids_in, buffers_in}
use Rattle.vx_wire_tree.specs.Written.{wire, canon}
use Rattle.vx_wire_tree_tests.proofs.SampleTold.{codec, name}

-- ---- samples

abbrev by_name : List ℕ → Option Reader
by_name id = if bytes_eq id name then Some (shipped E.primitive) else None

-- Numbers alone are read, and foreign nodes are allowed or not.
abbrev session : Bool → SessionMeaning
session unknown = record { reader = by_name; writer = by_name; ext = record { reader = λ id. None; unknown = unknown } }

abbrev three : ℕ → Buffer
three exponent = buffer (1 ∷ 2 ∷ 3 ∷ []) exponent

abbrev values : Buffer
values = buffer (four (1 ∷ 2 ∷ 3 ∷ 4 ∷ [])) 2

-- A node of numbers on the wire, with a field that shows no statistics, and a node of a given identifier over it.
abbrev numbers_node : Wire
numbers_node = node (record { id = Some name; metadata = []; buffers = Some values ∷ []; stats = text [] }) end

abbrev over_numbers : List ℕ → Wire
over_numbers id = node (record { id = Some id; metadata = 7 ∷ []; buffers = Some (three 3) ∷ []; stats = text [] }) (more numbers_node end)

-- Foreign nodes of these parts.
abbrev kept : List ℕ → List ℕ → List Buffer → List Tree → Tree
kept id metadata bs ts = array (text_type Nullable) 9 (B.foreign (record { id = id; metadata = metadata; buffers = bs })) ts

abbrev kept_over : ℕ → Tree → Tree
kept_over exponent t = kept (codes "x.new") (7 ∷ []) (three exponent ∷ []) (t ∷ [])

abbrev kept_numbers : Tree
kept_numbers = kept name [] (values ∷ []) []

-- ---- what is decoded

-- Below a node that nothing reads each node is kept unchanged, though its identifier is read and its field shows no
-- statistics.
matched : Matches codec (session true) (over_numbers (codes "x.new")) (kept_over 3 kept_numbers)
matched = (
  codes "x.new",
  refl,
  (
    refl,
    (
      record { kept = record { id = codes "x.new"; metadata = 7 ∷ []; buffers = three 3 ∷ [] }; body = refl; id = refl; metadata = refl; buffers = refl },
      ((record { kept = record { id = name; metadata = []; buffers = values ∷ [] }; body = refl; id = refl; metadata = refl; buffers = refl }, refl), refl),
    ),
    (record { stats = refl; children = (record { encoding = refl; dtype = refl; len = refl }, tt) }, ((record { stats = refl; children = tt }, tt), tt)),
  ),
)

-- So is a root over numbers, without buffers, no row of which is known; where foreign nodes are not allowed, its
-- identifier is refused.
abbrev root_node : Wire
root_node = node (record { id = Some (codes "x.y"); metadata = 170 ∷ []; buffers = []; stats = text [] }) (more numbers_node end)

abbrev foreign_numbers : List ℕ → List ℕ → List Buffer → List Tree → Tree
foreign_numbers id metadata bs ts = array (number_type P.I32 NonNullable) 4 (B.foreign (record { id = id; metadata = metadata; buffers = bs })) ts

abbrev root : Tree
root = foreign_numbers (codes "x.y") (170 ∷ []) [] (foreign_numbers name [] (values ∷ []) [] ∷ [])

root_matches : Matches codec (session true) root_node root
root_matches = (
  codes "x.y",
  refl,
  (
    refl,
    (
      record { kept = record { id = codes "x.y"; metadata = 170 ∷ []; buffers = [] }; body = refl; id = refl; metadata = refl; buffers = refl },
      ((record { kept = record { id = name; metadata = []; buffers = values ∷ [] }; body = refl; id = refl; metadata = refl; buffers = refl }, refl), refl),
    ),
    (record { stats = refl; children = (record { encoding = refl; dtype = refl; len = refl }, tt) }, ((record { stats = refl; children = tt }, tt), tt)),
  ),
)

root_rows : first_rows 4 root ≡ replicate 4 (lone opaque)
root_rows = refl

root_refused : RefusesTree unknown_encoding codec (session false) root_node (number_type P.I32 NonNullable) 4
root_refused = ([], record { unregistered = record { id = codes "x.y"; id_is = refl; reader_is = refl }; closed = refl })

-- A node by an encoding that is read does not match a foreign one.
read_is_not_kept : Matches codec (session true) numbers_node kept_numbers → ⊥
read_is_not_kept (id, e, m) = let x : E.foreign ≡ E.primitive = (by_id id e m).encoding in absurd (cc)
  where
    by_id : (id : List ℕ) → Some name ≡ Some id → IsNodeBy codec (session true) (by_name id) (label numbers_node) end kept_numbers (λ us. us ≡ end)
        → IsEncodedNode codec (session true) E.primitive (label numbers_node) kept_numbers (λ us. us ≡ end)
    by_id id e m = subst (λ z. IsNodeBy codec (session true) (by_name z) (label numbers_node) end kept_numbers (λ us. us ≡ end)) (sym (same_Some name id e)) m

-- What a foreign body keeps.
abbrev kept_in : Body → Foreigns.Data → Foreigns.Data
kept_in (B.foreign x) z = x
kept_in _ z = z

-- The exponent of the first buffer.
abbrev exponent_in : List (Option Buffer) → ℕ
exponent_in (Some b ∷ bs) = b.exponent
exponent_in _ = 0

-- A buffer keeps its exponent.
other_exponent : Matches codec (session true) (over_numbers (codes "x.new")) (kept_over 2 kept_numbers) → ⊥
other_exponent (id, e, m) = by_kept (raw_by id e m).0
  where
    raw_by : (id : List ℕ) → Some (codes "x.new") ≡ Some id
        → IsNodeBy codec (session true) (by_name id) (label (over_numbers (codes "x.new"))) (more numbers_node end) (kept_over 2 kept_numbers) (λ us. AllMatch codec (session true) (more numbers_node end) us)
        → IsRaw (over_numbers (codes "x.new")) (kept_over 2 kept_numbers)
    raw_by id e m =
        (subst (λ z. IsNodeBy codec (session true) (by_name z) (label (over_numbers (codes "x.new"))) (more numbers_node end) (kept_over 2 kept_numbers) (λ us. AllMatch codec (session true) (more numbers_node end) us))
        (sym (same_Some (codes "x.new") id e)) m).1

    by_kept : IsRawNode (label (over_numbers (codes "x.new"))) (label (kept_over 2 kept_numbers)) → ⊥
    by_kept x =
        let y : Foreigns.Data = record { id = codes "x.new"; metadata = 7 ∷ []; buffers = three 2 ∷ [] } in
        let p : y ≡ x.kept = ap (λ b. kept_in b y) x.body in
        let q : 3 ≡ 2 = ap (λ bs. exponent_in bs) (x.buffers ∙ ap (λ z. all_present z.buffers) (sym p)) in
        absurd (omega (arith, q))

-- ---- what is written

module _ (c : Codec) (s : SessionMeaning) where
  -- A foreign node's bytes are written unchanged, whatever the messages.
  kept_bytes : metadata_bytes c (told (metadata_in (label (kept_over 3 kept_numbers)) (below (kept_over 3 kept_numbers)))) ≡ 7 ∷ []
  kept_bytes = refl

  kept_ids : ids_in (wire c s (kept_over 3 numbers)) ≡ codes "x.new" ∷ codes "vortex.primitive" ∷ codes "vortex.bool" ∷ []
  kept_ids = refl

  kept_buffers : buffers_in (wire c s (kept_over 3 kept_numbers)) ≡ three 3 ∷ values ∷ []
  kept_buffers = refl

  -- What stands below it is read back as it is spelled: by its identifier and its message's bytes.
  read_back : canon c s (kept_over 3 (i32s NonNullable (1 ∷ 2 ∷ 3 ∷ 4 ∷ []) [])) ≡ kept_over 3 (kept name (c.fields_bytes F.empty) (values ∷ []) [])
  read_back = refl

-- ---- which identifiers nothing may read

-- Nothing may read the identifier of the topmost foreign node; below it identifiers are free.
topmost : (b : Bool) → IsUnread (session b) (kept_over 3 kept_numbers)
topmost b = refl

read_at_top : (b : Bool) → IsUnread (session b) kept_numbers → ⊥
read_at_top b u = absurd (cc)

none_foreign : (b : Bool) → IsUnread (session b) numbers
none_foreign b = (tt, tt)

kept_again : ReadsBack codec (session true) (kept_over 3 kept_numbers)
kept_again = record { reader = refl; allowed = refl }

not_kept : ReadsBack codec (session false) (kept_over 3 kept_numbers) → ⊥
not_kept k = false≢true k.allowed

-- Foreign nodes are written where they are allowed.
written : IsWrittenNode (session true) (label kept_numbers) end
written = refl

not_written : step (session false) kept_numbers ≡ unwritten unregistered
not_written = refl

-- ---- causes

-- An identifier that nothing reads is a cause where foreign nodes are not allowed, and nowhere else.
closed : RefusesTree unknown_encoding codec (session false) (over_numbers (codes "x.new")) (text_type Nullable) 9
closed = ([], record { unregistered = record { id = codes "x.new"; id_is = refl; reader_is = refl }; closed = refl })

never : (path : List ℕ) (w : Wire) (d : Typ) (n : ℕ) → HoldsAt codec (session true) (IsUnregistered (session true)) path w d n → ⊥
never [] w d n h = true≢false h.closed
never (i ∷ path) w d n h = never path h.0 h.1.dtype h.1.len h.3

allowed : (w : Wire) (d : Typ) (n : ℕ) → RefusesTree unknown_encoding codec (session true) w d n → ⊥
allowed w d n h = never h.0 w d n h.1

-- A validity that nothing reads says where the rows of numbers are.
abbrev unknown_validity : Wire
unknown_validity =
    node (record { id = Some name; metadata = []; buffers = Some values ∷ []; stats = absent })
    (more (node (record { id = Some (codes "x.new"); metadata = 7 ∷ []; buffers = Some (three 3) ∷ []; stats = absent }) end) end)

abbrev new_flags : Foreigns.Data
new_flags = record { id = codes "x.new"; metadata = 7 ∷ []; buffers = three 3 ∷ [] }

abbrev flags : Tree
flags = foreign (flag_type NonNullable) 4 []

foreign_validity : RefusesTree foreign_control codec (session true) unknown_validity (number_type P.I32 Nullable) 4
foreign_validity = (
  [],
  record {
    encoding = E.primitive;
    by = record { id = name; id_is = refl; encoding_is = refl };
    value = M.empty;
    metadata = record { fields = F.empty; shown = refl; meaning = refl; fair = tt; known = tt };
    places_are = place (flag_type NonNullable) 4 ∷ [];
    plan = refl;
    children = more flags end;
    matched = record {
      matched = ((codes "x.new", refl, (refl, (record { kept = new_flags; body = refl; id = refl; metadata = refl; buffers = refl }, refl), (record { stats = refl; children = tt }, tt))), refl);
      sound = ((record { fair = tt; planned = refl; allows = tt; takes = tt; holds = tt; controlled = native_controlled _ _ _ tt; content = tt; stats = none_fit _ }, tt), tt);
      placed = refl;
    };
    foreign = λ k. (k.controls 0 flags refl refl).0;
  },
)
