use Rattle.vx_flat.proofs.reading.places.is_inline.Goals as goal

pub returns-in-Union : goal.returns-in-Union
returns-in-Union c =
    rw (c.in-Union.is, ← c.place_of-place.ensures, ← c.place_of.ensures) (c.is_union_inline.ensures c.in-Union.field-0)
