-- A line tells its record.
use Rattle.std.proofs.Common.{◌≡◌, ℕ, ◌<◌, ◌≤◌, Bool, true, false, List, [], ◌∷◌, ◌++◌, length, take, drop, sym, refl, ap, ◌∙◌}
use mathlib.Core.HLevel.{is_prop→PathP}
use Rattle.std.proofs.Props.{props}
use Rattle.std.proofs.lemmas.List.{take_at, drop_at}
use Rattle.book.specs.Told.{Told}
use Rattle.records.specs.Curve.{curve_line, flat}
use Rattle.records.specs.Fields.{allows}
use Rattle.records.specs.Grid.{lists_line}
use Rattle.records.specs.Lines.{section_line, site_line, walls_number, live_load_number}
use Rattle.records.specs.declared.fields.Allowed.TheVariants.{Among}
use Rattle.records.specs.declared.point.Point.{Point}
use Rattle.records.specs.declared.section.Section.{Section}
use Rattle.records.specs.declared.site.LiveLoad.{LiveLoad}
use Rattle.records.specs.declared.site.LiveLoad.TheVariants.{None, Truck}
use Rattle.records.specs.declared.site.Site.{Site}

section_told : (s t : Section) → section_line s ≡ section_line t → s ≡ t
section_told s t e =
    let di : s.inside ≡ t.inside = cc in
    let dc : s.centroid ≡ t.centroid = cc in
    let dx : s.outside ≡ t.outside = cc in
    let ag : s.gross_area ≡ t.gross_area = cc in
    let ae : s.effective_area ≡ t.effective_area = cc in
    let ip : s.moment ≡ t.moment = cc in
    let es : s.short_modulus ≡ t.short_modulus = cc in
    let el : s.long_modulus ≡ t.long_modulus = cc in
    let lc : s.compression_limit ≡ t.compression_limit = cc in
    let lt : s.tension_limit ≡ t.tension_limit = cc in
    let ps : s.stiffness ≡ t.stiffness = cc in
    λ i. record {
      inside = di i;
      centroid = dc i;
      outside = dx i;
      gross_area = ag i;
      effective_area = ae i;
      moment = ip i;
      short_modulus = es i;
      long_modulus = el i;
      compression_limit = lc i;
      tension_limit = lt i;
      stiffness = ps i;
      diameters = is_prop→PathP (λ j. (3000 ≤ di j) × (di j < dc j) × (dc j < dx j) × (dx j ≤ 120000)) (λ j. Prim.hlevel props) s.diameters t.diameters i;
      areas = is_prop→PathP (λ j. (100 ≤ ae j) × (ae j ≤ ag j) × (ag j ≤ 100000)) (λ j. Prim.hlevel props) s.areas t.areas i;
      moments = is_prop→PathP (λ j. (100 ≤ ip j) × (ip j ≤ 100000000)) (λ j. Prim.hlevel props) s.moments t.moments i;
      moduli = is_prop→PathP (λ j. (1000 ≤ el j) × (el j ≤ es j) × (es j ≤ 1000000)) (λ j. Prim.hlevel props) s.moduli t.moduli i;
      limits = is_prop→PathP (λ j. (1 ≤ lc j) × (lc j ≤ 2000) × (1 ≤ lt j) × (lt j ≤ 2000)) (λ j. Prim.hlevel props) s.limits t.limits i;
      stiffnesses = is_prop→PathP (λ j. ps j ≤ 100000) (λ j. Prim.hlevel props) s.stiffnesses t.stiffnesses i;
    }

walls_told : (a b : Bool) → walls_number a ≡ walls_number b → a ≡ b
walls_told true true e = refl
walls_told true false e = cc
walls_told false true e = cc
walls_told false false e = refl

load_told : (a b : LiveLoad) → live_load_number a ≡ live_load_number b → a ≡ b
load_told None None e = refl
load_told None Truck e = cc
load_told Truck None e = cc
load_told Truck Truck e = refl

site_told : (s t : Site) → site_line s ≡ site_line t → s ≡ t
site_told s t e =
    let h : s.fill ≡ t.fill = cc in
    let bd : s.trench ≡ t.trench = cc in
    let hw : s.water ≡ t.water = cc in
    let wm : s.moist_weight ≡ t.moist_weight = cc in
    let ws : s.saturated_weight ≡ t.saturated_weight = cc in
    let kw : s.water_factor ≡ t.water_factor = cc in
    let ke : s.installation_factor ≡ t.installation_factor = cc in
    let mn : s.native_modulus ≡ t.native_modulus = cc in
    let wn : walls_number s.stable_walls ≡ walls_number t.stable_walls = cc in
    let ln : live_load_number s.live_load ≡ live_load_number t.live_load = cc in
    λ i. record {
      fill = h i;
      trench = bd i;
      water = hw i;
      moist_weight = wm i;
      saturated_weight = ws i;
      water_factor = kw i;
      installation_factor = ke i;
      native_modulus = mn i;
      stable_walls = walls_told _ _ wn i;
      live_load = load_told _ _ ln i;
      fills = is_prop→PathP (λ j. (12001 ≤ h j) × (h j ≤ 1200000)) (λ j. Prim.hlevel props) s.fills t.fills i;
      trenches = is_prop→PathP (λ j. (1 ≤ bd j) × (bd j ≤ 1200000)) (λ j. Prim.hlevel props) s.trenches t.trenches i;
      waters = is_prop→PathP (λ j. hw j ≤ 1260000) (λ j. Prim.hlevel props) s.waters t.waters i;
      weights = is_prop→PathP (λ j. (500 ≤ wm j) × (wm j ≤ 2000) × (800 ≤ ws j) × (ws j ≤ 2000)) (λ j. Prim.hlevel props) s.weights t.weights i;
      factors = is_prop→PathP (λ j. (100 ≤ kw j) × (kw j ≤ 130)) (λ j. Prim.hlevel props) s.factors t.factors i;
      installations = is_prop→PathP (λ j. (115 ≤ ke j) × (ke j ≤ 150) × (true ≡ allows (Among 115 135 150) (ke j))) (λ j. Prim.hlevel props) s.installations t.installations i;
      natives = is_prop→PathP (λ j. (50 ≤ mn j) × (mn j ≤ 50000)) (λ j. Prim.hlevel props) s.natives t.natives i;
    }

flat_told : (ps qs : List Point) → flat ps ≡ flat qs → ps ≡ qs
flat_told [] [] e = refl
flat_told [] (q ∷ qs) e = cc
flat_told (p ∷ ps) [] e = cc
flat_told (p ∷ ps) (q ∷ qs) e =
    let a : p.x ≡ q.x = cc in
    let b : p.y ≡ q.y = cc in
    let r : flat ps ≡ flat qs = cc in
    let rest = flat_told ps qs r in
    let same : p ≡ q = λ i. record { x = a i; y = b i } in
    cc

curve_told : (ps qs : List Point) → curve_line ps ≡ curve_line qs → ps ≡ qs
curve_told ps qs e = flat_told ps qs (cc)

split : (xs ys us vs : List ℕ) → length xs ≡ length ys → xs ++ us ≡ ys ++ vs → (xs ≡ ys) × (us ≡ vs)
split xs ys us vs n e = (
  sym (take_at xs us (length ys) n) ∙ ap (take (length ys)) e ∙ take_at ys vs (length ys) refl,
  sym (drop_at xs us (length ys) n) ∙ ap (drop (length ys)) e ∙ drop_at ys vs (length ys) refl,
)

grid_told : (widths ratios factors widths' ratios' factors' : List ℕ) → lists_line widths ratios factors ≡ lists_line widths' ratios' factors'
    → (widths ≡ widths') × (ratios ≡ ratios') × (factors ≡ factors')
grid_told ws rs fs ws' rs' fs' e =
    let a : length ws ≡ length ws' = cc in
    let b : length rs ≡ length rs' = cc in
    let all : ws ++ (rs ++ fs) ≡ ws' ++ (rs' ++ fs') = cc in
    let w = split ws ws' (rs ++ fs) (rs' ++ fs') a all in
    let r = split rs rs' fs fs' b w.1 in
    (w.0, r.0, r.1)

pub told : Told
told = record { section = section_told; site = site_told; curve = curve_told; grid = grid_told }
