-- The messages of functions have the form of their schemas.
use Rattle.std.proofs.Common.{◌≡◌, ℕ, List, [], ◌∷◌, refl, arith}
use lib.Utf8.{encode}
use Rattle.std.proofs.lemmas.Str.{IsUtf8-from_is_utf8, is_utf8-from_IsUtf8}
use Rattle.vx_types.specs.Content.{IsText}
use Rattle.vx_trees.specs.Rose.{Roses, node, end, more}
use Rattle.vx_trees.specs.Everywhere.{EverywhereBelow}
use Rattle.vx_trees.specs.Walks.{levels, levels_below}
use Rattle.vx_proto.specs.Schema.{plain, optional, repeated}
use Rattle.vx_proto.specs.declared.schema.Kind.TheVariants.{Message}
use Rattle.vx_proto.specs.declared.schema.ScalarKind.TheVariants.{String, Bytes}
use Rattle.vx_proto.specs.Form.{HasForm}
use Rattle.vx_proto.specs.Repeated.{as_message, messages}
use Rattle.vx_proto.specs.Value.{Value, octets, message, slots_of, entries_of}
use Rattle.vx_proto.specs.Written.{entries_depth, nested}
use Rattle.vx_proto.proofs.LawsOfForms.{form_of_slots}
use Rattle.vx_proto.proofs.LawsOfSlots.{Has, Each, has_plain, has_repeated, form_two, form_three}
use Rattle.vx_fn_wire.specs.Expr.{Head, root, call, Expr, IsExprNode, IsExpr}
use Rattle.vx_proto.specs.Value.{one_octets}
use Rattle.vx_fn_wire.specs.Messages.{root_id, id_of, metadata_at, call_message, expr_message, expr_messages}
use Rattle.vx_fn_wire.specs.Schema.{expr_lists, aggregate_lists}

-- A text in its plain slot, and metadata in its optional one.
pub text_form : (F : ℕ → Value → Type 0) (i : ℕ) (s : List ℕ) → IsText s → Has F (plain i String) (one_octets i s)
text_form F i s h = has_plain F i String (octets s) (s, refl, IsUtf8-from_is_utf8 s h)

pub metadata_form : (F : ℕ → Value → Type 0) (i : ℕ) (s : List ℕ) → Has F (optional i Bytes) (one_octets i s)
metadata_form F i s = record { count = omega arith; form = (has_plain F i Bytes (octets s) (s, refl)).form }

-- The message of an aggregate function.
pub aggregate_form : (id metadata : List ℕ) → IsText id → HasForm aggregate_lists 0 (one_octets 1 id ∷ one_octets 2 metadata ∷ [])
aggregate_form id metadata h =
    let F = HasForm aggregate_lists in
    form_of_slots aggregate_lists 0 (one_octets 1 id ∷ one_octets 2 metadata ∷ []) (form_two (text_form F 1 id h) (metadata_form F 2 metadata))

-- ---- expressions

abbrev F : ℕ → Value → Type 0
F = HasForm expr_lists

each_message : (vs : List Value) → Each (F 0) vs → Each (λ v. (w : Value) × (message (slots_of v) ≡ message (slots_of w)) × F 0 w) vs
each_message [] r = tt
each_message (v ∷ vs) r = ((v, refl, r.0), each_message vs r.1)

children_form : (vs : List Value) → Each (F 0) vs → Has F (repeated 2 (Message 0)) (messages (λ v. v) 2 vs)
children_form vs r = has_repeated F 2 (Message 0) (as_message (λ v. v)) vs (each_message vs r)

id_text : (h : Head) (ts : Roses Head) → IsExprNode h ts → IsText (id_of h)
unfolding encode
id_text root ts h = is_utf8-from_IsUtf8 root_id (root_id, (refl, refl))
id_text (call f) ts h = h.1

mutual
  -- The message of an expression.
  pub expr_form : (e : Expr) → IsExpr e → HasForm expr_lists 0 (expr_message e)
  expr_form (node h ts) is =
      form_of_slots expr_lists 0 (call_message h (expr_messages ts))
      (form_three (text_form F 1 (id_of h) (id_text h ts is.0)) (children_form (expr_messages ts) (exprs_form ts is.1)) (metadata_form F 3 (metadata_at h)))

  exprs_form : (ts : Roses Head) → EverywhereBelow IsExprNode ts → Each (F 0) (expr_messages ts)
  exprs_form end is = tt
  exprs_form (more t ts) is = (expr_form t is.0, exprs_form ts is.1)

mutual
  -- It nests as deep as the expression has levels.
  pub expr_depth : (e : Expr) → nested (expr_message e) ≡ levels e
  expr_depth (node h ts) = omega (arith, exprs_depth ts)

  exprs_depth : (ts : Roses Head) → entries_depth (entries_of (messages (λ v. v) 2 (expr_messages ts))) ≡ levels_below ts
  exprs_depth end = refl
  exprs_depth (more t ts) = omega (arith, expr_depth t, exprs_depth ts)
