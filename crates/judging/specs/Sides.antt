-- The sides of the limit states over any numbers, in the order in which they are computed.
use Rattle.enclosure.specs.Formula.{Ops}
use Rattle.quantities.specs.Formulas.{parts_of, square_of, cube_of}

module _ {T : Type 0} (o : Ops T) where
  -- 0.05 g Di/D
  abbrev pub bending_strain_of : T → T → T → T
  bending_strain_of bending inside centroid = o.div (o.mul (o.mul (parts_of o 5 100) bending) inside) centroid

  -- εyt + εmin + g εs, and 1.5 εyc + g εs
  abbrev pub tension_allowed_of : T → T → T → T → T
  tension_allowed_of limit least bending service = o.add (o.add limit least) (o.mul bending service)

  abbrev pub compression_allowed_of : T → T → T → T
  compression_allowed_of limit bending service = o.add (o.mul (parts_of o 15 10) limit) (o.mul bending service)

  -- the right side of buckling, of Ip, Aeff, Elt, Ms, H and D
  abbrev pub buckling_cube_of : T → T → T → T → T → T → T
  buckling_cube_of moment effective long soil fill centroid =
      o.mul
      (o.mul (o.mul (cube_of o (parts_of o 462 1000)) (o.div moment (o.mul (cube_of o effective) (square_of o long))))
      (square_of o (o.mul (o.mul (parts_of o 9 10) soil) (o.div (parts_of o 4 10) (parts_of o 49 100)))))
      (cube_of o (o.div (parts_of o 114 10) (o.add (o.num 11) (o.div centroid fill))))

  -- D²/(Est Ip)
  abbrev pub flexibility_of : T → T → T → T
  flexibility_of centroid short moment = o.div (square_of o centroid) (o.mul short moment)

  -- (π/4) Do² 62.4/1728, and 0.675 Psp Do
  abbrev pub uplift_of : T → T
  uplift_of outside = o.div (o.mul (o.mul (o.div (parts_of o 3141592654 1000000000) (o.num 4)) (square_of o outside)) (parts_of o 624 10)) (o.num 1728)

  abbrev pub hold_down_of : T → T → T
  hold_down_of prism outside = o.mul (o.mul (parts_of o 675 1000) prism) outside
