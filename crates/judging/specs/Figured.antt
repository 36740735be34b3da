-- What is known of a figure, and of that figure in millionths.
use Rattle.std.specs.Prelude.{◌^◌}
use Rattle.enclosure.specs.Model.{Model}
use Rattle.equations.specs.Design.{Design}
use Rattle.equations.specs.Figures.{figure, figure_millionths}
use Rattle.equations.specs.declared.figure.Figure.{Figure}
use Rattle.quantities.specs.Known.{Known}

abbrev pub FigureKnown : {E : Type 0} → Model E → Design → Figure → E → Type 0
FigureKnown m d f e = Known m 300 1 (10 ^ 10) (10 ^ 9) 1 (figure f d) e

abbrev pub MillionthsKnown : {E : Type 0} → Model E → Design → Figure → E → Type 0
MillionthsKnown m d f e = Known m 302 1 (10 ^ 4) (10 ^ 15) 1 (figure_millionths f d) e
