-- How trees are stored, where a struct has one as its model.
use Rattle.std.specs.Prelude.{ℕ, List, []}
use Rattle.std.specs.Coded.{Coded, code_by, coded×, coded_ℕ, coded_list}
use Rattle.vx_trees.specs.Rose.{Rose, Roses}
use Rattle.vx_trees.specs.Preorder.{flat, flats, unflat, first_of}
use Rattle.vx_trees.specs.ReadBack.{first_of-unflat, unflat-flats_end}

module _ {L : Type 0} where
  -- A tree is stored as its nodes in preorder, each with the number of trees below it. So a stored tree is a flat list,
  -- with no tree inside a tree. The label given is that of a tree read from no node at all.
  abbrev pub coded_rose : L → Coded L → Coded (Rose L)
  coded_rose d c = code_by (List (L × ℕ)) (coded_list (coded× c coded_ℕ)) (λ t. flat t []) (λ xs. first_of d (unflat xs)) (first_of-unflat d)

  -- Trees in an order are stored one after the other.
  abbrev pub coded_roses : Coded L → Coded (Roses L)
  coded_roses c = code_by (List (L × ℕ)) (coded_list (coded× c coded_ℕ)) (λ ts. flats ts []) unflat unflat-flats_end
