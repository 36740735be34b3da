-- What a short list shows.
use Rattle.std.specs.Prelude.{ℕ, List, take}
use Rattle.records.specs.declared.short_list.ShortList.{ShortList}

-- the items that are in use
abbrev pub in_use : {T : Type 0} {N : ℕ} → ShortList T N → List T
in_use l = take l.count l.held
