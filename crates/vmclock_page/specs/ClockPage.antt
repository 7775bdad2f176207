use Rattle.vmclock_page.specs.declared.page.Page.TheInside.{Inside}

-- what contracts see of a `Page`: the record of its public fields
abbrev pub ClockPage : Type 0
ClockPage = Inside
