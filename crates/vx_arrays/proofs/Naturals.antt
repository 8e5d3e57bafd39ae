-- Rows that are no natural numbers, and rows that are no flags.
use Rattle.std.proofs.Common.{ℕ, ◌≡◌, List, Option, Some, None, Bool, true, false, refl, sym}
use Rattle.vx_trees.specs.Rose.{node}
use Rattle.vx_types.specs.Kind as K
use Rattle.vx_types.specs.Typ.{Typ}
use Rattle.vx_types.specs.Value.{Value, lone, natural}
use Rattle.vx_array_tree.specs.Encodings.VarBins.{mark_of}
use Rattle.vx_types.specs.Value.{flag_in}
use Rattle.vx_array_tree.specs.Rows.{where_valid}

-- A row whose value is none is none, whatever is known of it.
pub no_natural : (valid : Option Bool) (value : ℕ → Value) (i : ℕ) → natural (value i) ≡ None → None ≡ natural (where_valid valid value i)
no_natural None value i e = refl
no_natural (Some false) value i e = refl
no_natural (Some true) value i e = sym e

pub no_flag : (valid : Option Bool) (value : ℕ → Value) (i : ℕ) → flag_in (value i) ≡ None → None ≡ flag_in (where_valid valid value i)
no_flag None value i e = refl
no_flag (Some false) value i e = refl
no_flag (Some true) value i e = sym e

-- Bytes are neither.
pub bytes_no_natural : (d : Typ) (bs : List ℕ) → natural (lone (mark_of d bs)) ≡ None
bytes_no_natural (node K.null ts) bs = refl
bytes_no_natural (node (K.boolean m) ts) bs = refl
bytes_no_natural (node (K.primitive p m) ts) bs = refl
bytes_no_natural (node (K.decimal p s m) ts) bs = refl
bytes_no_natural (node (K.utf8 m) ts) bs = refl
bytes_no_natural (node (K.binary m) ts) bs = refl
bytes_no_natural (node (K.list m) ts) bs = refl
bytes_no_natural (node (K.fixed_size_list n m) ts) bs = refl
bytes_no_natural (node (K.structure ns m) ts) bs = refl
bytes_no_natural (node (K.union ns ids m) ts) bs = refl
bytes_no_natural (node (K.map b m) ts) bs = refl
bytes_no_natural (node (K.variant m) ts) bs = refl
bytes_no_natural (node (K.extension id bytes) ts) bs = refl

pub bytes_no_flag : (d : Typ) (bs : List ℕ) → flag_in (lone (mark_of d bs)) ≡ None
bytes_no_flag (node K.null ts) bs = refl
bytes_no_flag (node (K.boolean m) ts) bs = refl
bytes_no_flag (node (K.primitive p m) ts) bs = refl
bytes_no_flag (node (K.decimal p s m) ts) bs = refl
bytes_no_flag (node (K.utf8 m) ts) bs = refl
bytes_no_flag (node (K.binary m) ts) bs = refl
bytes_no_flag (node (K.list m) ts) bs = refl
bytes_no_flag (node (K.fixed_size_list n m) ts) bs = refl
bytes_no_flag (node (K.structure ns m) ts) bs = refl
bytes_no_flag (node (K.union ns ids m) ts) bs = refl
bytes_no_flag (node (K.map b m) ts) bs = refl
bytes_no_flag (node (K.variant m) ts) bs = refl
bytes_no_flag (node (K.extension id bytes) ts) bs = refl

pub ruleset naturals = (no_natural, bytes_no_natural)

pub ruleset flagless = (no_flag, bytes_no_flag)
