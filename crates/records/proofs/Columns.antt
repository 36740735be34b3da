-- A grid's columns, row by row.
use Rattle.std.proofs.Common.{Bool, List, Some, None, Option}
use Rattle.records.specs.Curve.{linked, chained}

-- a test passes along the items, after the one before them where there is one
abbrev pub after : {X : Type 0} → (X → X → Bool) → Option X → List X → Bool
after test None xs = chained test xs
after test (Some x) xs = linked test x xs
