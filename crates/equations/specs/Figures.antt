-- The eight figures that an answer may be asked for, and their numbers.
use Rattle.std.specs.Prelude.{ℕ, cond, List, [], ◌∷◌, Some, None, Option, ◌==◌}
use Rattle.fraction.specs.Fraction.{Fraction, whole, ◌⊗◌}
use Rattle.equations.specs.Design.{Design}
use Rattle.equations.specs.Pressures.{prism_pressure}
use Rattle.equations.specs.Soil.{soil_modulus}
use Rattle.equations.specs.Thrust.{hoop_stiffness, vertical_arching, design_thrust}
use Rattle.equations.specs.Strains.{thrust_strain, service_strain}
use Rattle.equations.specs.Deflection.{deflection}
use Rattle.equations.specs.declared.figure.Figure.{Figure}
use Rattle.equations.specs.declared.figure.Figure.TheVariants.{PrismPressure, SoilModulus, HoopStiffness, VerticalArching, DesignThrust, ThrustStrain, ServiceStrain, Deflection}

-- Psp, Ms, SH, VAF, TD, εc, εs and Δ
abbrev pub figure : Figure → Design → Fraction
figure PrismPressure d = prism_pressure d
figure SoilModulus d = soil_modulus d
figure HoopStiffness d = hoop_stiffness d
figure VerticalArching d = vertical_arching d
figure DesignThrust d = design_thrust d
figure ThrustStrain d = thrust_strain d
figure ServiceStrain d = service_strain d
figure Deflection d = deflection d

-- in millionths
abbrev pub figure_millionths : Figure → Design → Fraction
figure_millionths f d = figure f d ⊗ whole 1000000

-- the number of each
abbrev pub figure_number : Figure → ℕ
figure_number PrismPressure = 1
figure_number SoilModulus = 2
figure_number HoopStiffness = 3
figure_number VerticalArching = 4
figure_number DesignThrust = 5
figure_number ThrustStrain = 6
figure_number ServiceStrain = 7
figure_number Deflection = 8

-- the figure of a number
abbrev pub figure_list : List Figure
figure_list =
    PrismPressure ∷ SoilModulus ∷ HoopStiffness ∷ VerticalArching ∷ DesignThrust ∷ ThrustStrain ∷ ServiceStrain ∷ Deflection ∷ []

abbrev pub numbered_in : ℕ → List Figure → Option Figure
numbered_in n [] = None
numbered_in n (f ∷ fs) = cond (n == figure_number f) (Some f) (numbered_in n fs)

abbrev pub figure_numbered : ℕ → Option Figure
figure_numbered n = numbered_in n figure_list
