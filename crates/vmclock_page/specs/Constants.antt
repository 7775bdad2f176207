-- What never changes of a page: its size, its counter and its kind of time, beside the magic and the version, which
-- every page has. This project's own.
use Rattle.std.specs.Prelude.{Bool, ◌==◌, ◌&&◌}
use Rattle.vmclock_page.specs.ClockPage.{ClockPage}

abbrev pub has_constants_of : ClockPage → ClockPage → Bool
has_constants_of start page =
    (page.size == start.size) && ((page.counter_id == start.counter_id) && (page.time_type == start.time_type))
