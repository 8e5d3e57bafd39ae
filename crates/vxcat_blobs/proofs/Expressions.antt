-- From what the steps of the command `expr` ensure to how it ends.
use Rattle.std.proofs.Common.{◌≡◌, ◌≤◌, ℕ, true, None, List, [], ◌∷◌, length, get_or, refl, subst, sym, arith}
use Rattle.vx_trees.specs.Walks.{levels}
use Rattle.vx_fn_wire.specs.Expr.{Expr}
use Rattle.vx_fn_wire.specs.Messages.{RefusesWritingExprBytes}
use Rattle.vx_fn_wire.specs.ReadsExpr.{ReadsExprBytes}
use Rattle.vx_fn_wire.specs.Session.{Registry}
use Rattle.vx_fn_wire.specs.declared.error.FnWireError.{FnWireError}
use Rattle.vx_fn_wire.specs.declared.error.FnWireError.TheVariants as error
use Rattle.vx_fn_wire.specs.declared.scalar_fn.ScalarFn.{ScalarFn}
use Rattle.vx_fn_wire.proofs.LawsOfExpressions.{read_writable}
use Rattle.vxcat_store.specs.declared.status.Status.{Status}
use Rattle.vxcat_store.specs.declared.status.Status.TheVariants.{OutOfMemory, BadExpression}
use Rattle.vxcat_store.specs.declared.store.StoreError.{StoreError}
use Rattle.vxcat_store.specs.declared.store.StoreError.TheVariants as store_error
use Rattle.vxcat_blobs.specs.ExprCommand.{EndsExpr, IsReadAsExpression, RefusesExpr, no_functions}
use Rattle.vxcat_store.specs.RunState.{run_of}
use Rattle.vxcat_store.specs.SinkState.{SinkState}
use Rattle.vxcat_store.specs.Statuses.{expr_status, load_status}
use Rattle.vxcat_store.specs.StoreState.{AskedOnly, HasRisen, Stands, StoreState}
use Rattle.vxcat_store.proofs.Laws.{untouched}

-- Two words by their elements.
pub two : (ws : List (List ℕ)) (a b : List ℕ) → length ws ≡ 2 → a ≡ get_or ws 0 a → b ≡ get_or ws 1 b → ws ≡ a ∷ b ∷ []
two (x ∷ y ∷ []) a b long p q = cc
two [] a b long p q = absurd (omega (arith, long))
two (x ∷ []) a b long p q = absurd (omega (arith, long))
two (x ∷ y ∷ z ∷ ws) a b long p q = absurd (omega (arith, long))

-- ---- what is read under a session without plugins

same_registry : (registry : Registry ScalarFn) → ((id : List ℕ) → registry id ≡ None) → registry ≡ no_functions
same_registry registry none = λ k id. none id k

pub read_as : (registry : Registry ScalarFn) (bytes : List ℕ) (e : Expr) → ((id : List ℕ) → registry id ≡ None) → ReadsExprBytes registry true bytes e → IsReadAsExpression bytes e
read_as registry bytes e none read = subst (λ (r : Registry ScalarFn). ReadsExprBytes r true bytes e) (same_registry registry none) read

pub as_read : (registry : Registry ScalarFn) (bytes : List ℕ) (e : Expr) → ((id : List ℕ) → registry id ≡ None) → IsReadAsExpression bytes e → ReadsExprBytes registry true bytes e
as_read registry bytes e none read = subst (λ (r : Registry ScalarFn). ReadsExprBytes r true bytes e) (sym (same_registry registry none)) read

-- Bytes are refused where they are read as no expression, or where allocation failed.
pub refused : (e : FnWireError) (bytes : List ℕ) → ((x : Expr) → IsReadAsExpression bytes x → e ≡ error.OutOfMemory) → RefusesExpr (expr_status e) bytes
refused error.OutOfMemory bytes complete = tt
refused error.BadMessage bytes complete = λ x read. (let never = complete x read in cc)
refused error.TooDeep bytes complete = λ x read. (let never = complete x read in cc)
refused error.RootWithChildren bytes complete = λ x read. (let never = complete x read in cc)
refused error.UnknownId bytes complete = λ x read. (let never = complete x read in cc)
refused error.ArityMismatch bytes complete = λ x read. (let never = complete x read in cc)
refused error.IdMismatch bytes complete = λ x read. (let never = complete x read in cc)
refused error.NotSerializable bytes complete = λ x read. (let never = complete x read in cc)
refused error.PluginRefused bytes complete = λ x read. (let never = complete x read in cc)

-- What is read can be written: the only refusal is `OutOfMemory`.
pub memory_alone : (e : FnWireError) (bytes : List ℕ) (x : Expr) → IsReadAsExpression bytes x → levels x ≤ 100 → RefusesWritingExprBytes e x → e ≡ error.OutOfMemory
memory_alone error.OutOfMemory bytes x read shallow cause = refl
memory_alone error.TooDeep bytes x read shallow cause = absurd (omega (arith, shallow, cause))
memory_alone error.NotSerializable bytes x read shallow cause = absurd (cause (read_writable no_functions true (λ id. refl) read.value x read.read))
memory_alone e bytes x read shallow cause = absurd cause

-- ---- how the command ends

-- At its load.
pub load_ends : (e : StoreError) (file : List ℕ) (before after : StoreState) (out : SinkState) → AskedOnly (file ∷ []) before.asked after.asked → after.tells ≡ before.tells → after.file ≡ before.file
    → (e ≡ store_error.Failed → HasRisen before.load_faults after.load_faults) → EndsExpr (load_status e) file (run_of before after out out)
load_ends store_error.OutOfMemory file before after out asked tells same fault = untouched before after out tells same
load_ends store_error.Failed file before after out asked tells same fault = (fault refl, asked, untouched before after out tells same)

-- At what it loaded.
pub unread_ends : (status : Status) (file bytes : List ℕ) (before after : StoreState) (out : SinkState) → Stands before file bytes → RefusesExpr status bytes → after.tells ≡ before.tells → after.file ≡ before.file
    → EndsExpr status file (run_of before after out out)
unread_ends OutOfMemory file bytes before after out stands cause tells same = untouched before after out tells same
unread_ends BadExpression file bytes before after out stands cause tells same = record { bytes = bytes; stands = stands; none = cause; untouched = untouched before after out tells same }
unread_ends status file bytes before after out stands cause tells same = absurd cause
