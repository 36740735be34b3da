-- A case: the design of five records that fit together, or why they do not.
use Rattle.std.specs.Prelude.{ℕ, ◌+◌, ◌*◌, cond, Some, None, Option, nat_le, nat_lt}
use Rattle.records.specs.Cause.{Refusal, refusal}
use Rattle.records.specs.Lines.{EmbedmentCurve, ShapeCurve, embedment_points, shape_points, grid_widths, grid_ratios, grid_factors}
use Rattle.records.specs.declared.fault.Cause.TheVariants.{Trench, Water}
use Rattle.records.specs.declared.grid.SupportGrid.{SupportGrid}
use Rattle.records.specs.declared.section.Section.{Section}
use Rattle.records.specs.declared.site.Site.{Site}
use Rattle.equations.specs.Design.{Design}
use Rattle.quantities.specs.declared.case.Case.{Case}

-- the design of five records
abbrev pub records_of : Section → EmbedmentCurve → ShapeCurve → SupportGrid → Site → Design
records_of section embedment shape grid site =
    record {
      section = section;
      embedment = embedment_points embedment;
      shape = shape_points shape;
      widths = grid_widths grid;
      ratios = grid_ratios grid;
      factors = grid_factors grid;
      site = site;
    }

abbrev pub design_of : Case → Design
design_of c = records_of c.section c.embedment.now c.shape.now c.grid.now c.site

-- a trench Bd no wider than the pipe Do, or water Hw above the ground, 2 Hw > 2 H + Do
abbrev pub fit_refusal : (Do H Bd Hw : ℕ) → Option Refusal
fit_refusal Do H Bd Hw = cond (nat_le Bd Do) (Some (refusal Trench 0)) (cond (nat_lt (2 * H + Do) (2 * Hw)) (Some (refusal Water 0)) None)

-- why a section and a site do not fit together
abbrev pub case_refusal : Section → Site → Option Refusal
case_refusal section site = fit_refusal section.outside site.fill site.trench site.water
