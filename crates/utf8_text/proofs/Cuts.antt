-- First pieces on lists of code points.
use Rattle.std.proofs.Common.{◌≡◌, ℕ, ◌<◌, ◌≤◌, min, List, [], ◌∷◌, ◌++◌, length, drop, refl, arith}
use Rattle.std.specs.List.{AllByRecursion}
use Rattle.std.proofs.lemmas.Bool.Decides.{nat_tests}
use Rattle.utf8_text.specs.Pieces.{leading_marks, leading_lf, attached, first_piece, sizes}
use Rattle.utf8_text.proofs.Grammar.{size_some}

-- ---- a first piece that goes on
pub marks_within : (cs ds : List ℕ) → sizes (leading_marks cs) ≡ min (sizes cs) (sizes (leading_marks (cs ++ ds)))
marks_within [] ds = omega arith
marks_within (c ∷ cs) ds =
    let i = marks_within cs ds in
    grind (arith, nat_tests, i)

lf_within : (cs ds : List ℕ) → sizes (leading_lf cs) ≡ min (sizes cs) (sizes (leading_lf (cs ++ ds)))
lf_within [] ds = omega arith
lf_within (c ∷ cs) ds = grind (arith, nat_tests)

pub attached_within : (c : ℕ) (cs ds : List ℕ) → sizes (attached c cs) ≡ min (sizes cs) (sizes (attached c (cs ++ ds)))
attached_within c cs ds = grind (arith, nat_tests, lf_within cs ds, marks_within cs ds)

pub piece_within : (cs ds : List ℕ) → sizes (first_piece cs) ≡ min (sizes cs) (sizes (first_piece (cs ++ ds)))
piece_within [] ds = omega arith
piece_within (c ∷ cs) ds = let i = attached_within c cs ds in omega arith

pub piece_some : (cs : List ℕ) → 0 < sizes cs → 0 < sizes (first_piece cs)
piece_some [] h = h
piece_some (c ∷ cs) h = omega (arith, size_some c)

-- ---- a first piece is a front
marks_front : (cs : List ℕ) → cs ≡ leading_marks cs ++ drop (length (leading_marks cs)) cs
marks_front [] = refl
marks_front (c ∷ cs) = let i = marks_front cs in grind (arith, nat_tests)

lf_front : (cs : List ℕ) → cs ≡ leading_lf cs ++ drop (length (leading_lf cs)) cs
lf_front [] = refl
lf_front (c ∷ cs) = grind (arith, nat_tests)

pub piece_front : (cs : List ℕ) → cs ≡ first_piece cs ++ drop (length (first_piece cs)) cs
piece_front [] = refl
piece_front (c ∷ cs) = grind (arith, nat_tests, lf_front cs, marks_front cs)

-- ---- a piece of two bytes and more has no zero
abbrev pub Nonzero : List ℕ → Type 0
Nonzero cs = AllByRecursion (λ c. 0 < c) cs

marks_nonzero : (cs : List ℕ) → Nonzero (leading_marks cs)
marks_nonzero [] = tt
marks_nonzero (c ∷ cs) = grind (arith, nat_tests, marks_nonzero cs)

lf_nonzero : (cs : List ℕ) → Nonzero (leading_lf cs)
lf_nonzero [] = tt
lf_nonzero (c ∷ cs) = grind (arith, nat_tests)

attached_nonzero : (c : ℕ) (cs : List ℕ) → Nonzero (attached c cs)
attached_nonzero c cs = grind (arith, nat_tests, lf_nonzero cs, marks_nonzero cs)

pub piece_nonzero : (cs : List ℕ) → 2 ≤ sizes (first_piece cs) → Nonzero (first_piece cs)
piece_nonzero [] h = tt
piece_nonzero (c ∷ cs) h = (grind (arith, nat_tests), attached_nonzero c cs)
