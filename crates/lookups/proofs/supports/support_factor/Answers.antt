use Rattle.std.proofs.Common.{arith}
use lib.Dec.{lit≤}
use Rattle.fraction.specs.Ratio.{value}
use Rattle.lookups.specs.Operand.{modulus_of}
use Rattle.records.specs.Lines.{grid_widths, grid_ratios}
use Rattle.records.proofs.GridLines.{gridded}
use Rattle.lookups.proofs.Bilinear.{cell_fits, own_finds, width_same, modulus_same, found_factor}
use Rattle.lookups.proofs.supports.support_factor.Goals as goal

pub crossed-requires : goal.crossed-requires
crossed-requires c =
    let g = c.args.grid.now in
    let q = gridded g in
    let x = rw c.widths.ensures at c.cell_of-across.ensures in
    let y = rw c.ratios.ensures at c.cell_of-along.ensures in
    record {
      across_within = (x.first, x.second);
      along_within = (y.first, y.second);
      across_small = cell_fits 1000 120000 _ _ _ (grid_widths g) (lit≤ tt) x.weights (q.widths _ x.second).1 (omega (arith, c.width_ratio.ensures.den, c.args.section.now.diameters.3));
      along_small = cell_fits 5000 3456000000000000000 _ _ _ (grid_ratios g) (lit≤ tt) y.weights (q.ratios _ y.second).1 (omega (arith, c.args.modulus.most, c.args.modulus.fits));
    }

pub returns-clause-value : goal.returns-clause-value
returns-clause-value c =
    let g = c.args.grid.now in
    let m = c.args.modulus in
    let x = rw c.widths.ensures at c.cell_of-across.ensures in
    let y = rw c.ratios.ensures at c.cell_of-along.ensures in
    let w = c.width_ratio.ensures in
    let r = c.modulus_ratio.ensures in
    let e = c.crossed.ensures in
    found_factor g _ _ c.crossed.result c.cell_of-across.result c.cell_of-along.result
    (own_finds (grid_widths g) _ (width_same (value c.width_ratio.result) c.args.site.now.trench c.args.section.now.outside (omega (arith, c.args.section.now.diameters)) w.num w.den) x.value)
    (own_finds (grid_ratios g) _ (modulus_same (value c.modulus_ratio.result) c.args.site.now.native_modulus (modulus_of m) (omega (arith, m.least, m.positive)) r.num r.den) y.value)
    x.first x.second y.first y.second e.num e.den
