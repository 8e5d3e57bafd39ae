-- The places of the blocks of a message, and the field tables that they share.
use Rattle.std.specs.Prelude.{ℕ, zero, suc, ◌+◌, ◌*◌, Bool, true, false, List, [], ◌∷◌, ◌++◌}
use Rattle.std.specs.Prelude.{length, Option, Some, None, if◌then◌else◌, bytes_eq}
pub use Rattle.vx_flat.specs.declared.writing.block.BlockOffsets.{BlockOffsets}
use Rattle.vx_flat.specs.Blocks.{Cell, Block, table_block, elements_block, links_block, text_block}
use Rattle.vx_flat.specs.FieldTables.{align, inline_end, field_table_bytes}

-- The written field tables that later tables may share, with their places, in order.
abbrev pub Known : Type 0
Known = List (List ℕ × ℕ)

-- The place of the first known field table with these bytes.
abbrev pub known_at : Known → List ℕ → Option ℕ
known_at [] bs = None
known_at (k ∷ ks) bs = if bytes_eq k.0 bs then Some k.1 else known_at ks bs

-- A table's block at p begins with its own field table, and the table follows at the next multiple
-- of 8. Where an equal field table is known, the block is the table alone.
abbrev pub table_offsets : ℕ → List Cell → Option ℕ → BlockOffsets
table_offsets p cs (Some q) =
    record { start = p; target = p; end = p + inline_end 4 cs; fields = q; is_own = false }
table_offsets p cs None =
    let t = p + align 8 (4 + 2 * length cs) in
    record { start = p; target = t; end = t + inline_end 4 cs; fields = p; is_own = true }

-- The place of a block that starts at p. Offsets point to a table, and to a vector's count or a
-- string's length, which begins its block. A string ends with a zero byte.
abbrev pub offsets : Known → ℕ → Block → BlockOffsets
offsets known p (table_block cs) = table_offsets p cs (known_at known (field_table_bytes cs))
offsets known p (elements_block n bs) =
    record { start = p; target = p; end = p + (4 + length bs); fields = 0; is_own = true }
offsets known p (links_block ls) =
    record { start = p; target = p; end = p + (4 + 4 * length ls); fields = 0; is_own = true }
offsets known p (text_block bs) =
    record { start = p; target = p; end = p + (5 + length bs); fields = 0; is_own = true }

-- The field tables that are known after a block: in the sharing form its own as well, and in the
-- plain form none.
abbrev pub intern : Bool → Known → BlockOffsets → Block → Known
intern true known s (table_block cs) =
    if s.is_own then known ++ (field_table_bytes cs, s.fields) ∷ [] else known
intern sharing known s b = known

-- The places of blocks from p on: each starts at the next multiple of 8.
abbrev pub block_offsets : Bool → Known → ℕ → List Block → List BlockOffsets
block_offsets sharing known p [] = []
block_offsets sharing known p (b ∷ bs) =
    let s = offsets known (align 8 p) b in
    s ∷ block_offsets sharing (intern sharing known s b) s.end bs

-- Where an offset to block k points.
abbrev pub target_of : List BlockOffsets → ℕ → ℕ
target_of [] k = 0
target_of (s ∷ ss) zero = s.target
target_of (s ∷ ss) (suc k) = target_of ss k

-- Where the last of the blocks ends; p if there is none.
abbrev pub last_end : ℕ → List BlockOffsets → ℕ
last_end p [] = p
last_end p (s ∷ ss) = last_end s.end ss
