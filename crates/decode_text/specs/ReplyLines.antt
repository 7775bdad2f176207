-- The lines that tell of a tracking reply (this project's format), byte for byte. Each ends with a line feed.
use Rattle.std.specs.Prelude.{ℕ, List, ◌++◌, codes, decimal, Option, Some, None, Result, Ok, Err}
use Rattle.std.specs.Fmt.{signed_decimal}
use Rattle.std.specs.Int.{w32, w128, to_be_bytes}
use Rattle.hex.specs.Hex.{encode_lower}
use Rattle.chrony_fraction.specs.Packed.{packed_value}
use Rattle.chrony_fraction.specs.ClockError.{error_units, clock_error_bound}
use Rattle.chrony_fraction.specs.declared.packed.Packed.{Packed}
use Rattle.candm_codec.specs.Reply.{code_of, reply_of}
use Rattle.candm_codec.specs.declared.tracking.RefTime.{RefTime}
use Rattle.candm_codec.specs.declared.tracking.Tracking.{Tracking}
use Rattle.candm_codec.specs.declared.tracking.ReplyFault.{ReplyFault}
use Rattle.candm_codec.specs.declared.tracking.ReplyFault.TheVariants as fault

-- a reference id as 8 digits
unfoldable pub ref_id_digits : ℕ → List ℕ
ref_id_digits ref_id = encode_lower (to_be_bytes w32 ref_id)

-- an address as 32 digits
unfoldable pub address_digits : ℕ → List ℕ
address_digits address = encode_lower (to_be_bytes w128 address)

-- the source: `reply,SEQUENCE,REFID,FAMILY,ADDRESS,`
unfoldable pub source_part : Tracking → List ℕ
source_part t = codes "reply," ++ (decimal t.sequence ++ (codes "," ++ (ref_id_digits t.ref_id ++ (codes "," ++ (decimal t.family ++ (codes "," ++ (address_digits t.address ++ codes ",")))))))

-- `STRATUM,LEAP,`
unfoldable pub state_part : Tracking → List ℕ
state_part t = decimal t.stratum ++ (codes "," ++ (decimal (code_of t.leap) ++ codes ","))

-- `HIGH,LOW,NSEC`
unfoldable pub time_part : RefTime → List ℕ
time_part time = decimal time.high ++ (codes "," ++ (decimal time.low ++ (codes "," ++ (decimal time.nsec ++ codes "\n"))))

-- `reply,SEQUENCE,REFID,FAMILY,ADDRESS,STRATUM,LEAP,HIGH,LOW,NSEC`
unfoldable pub reply_line : Tracking → List ℕ
reply_line t = source_part t ++ (state_part t ++ time_part t.ref_time)

-- `packed,NAME,COEFFICIENT,EXPONENT`: the value is the coefficient times 2 to this exponent
unfoldable pub packed_line : List ℕ → Packed → List ℕ
packed_line name number =
    let value = packed_value number.0 in
    codes "packed," ++ (name ++ (codes "," ++ (signed_decimal value.0 ++ (codes "," ++ (signed_decimal value.1 ++ codes "\n")))))

-- how far the clock is off
unfoldable pub offset_lines : Tracking → List ℕ
offset_lines t =
    packed_line (codes "current_correction") t.current_correction
    ++ (packed_line (codes "last_offset") t.last_offset ++ packed_line (codes "rms_offset") t.rms_offset)

-- how far its frequency is off
unfoldable pub frequency_lines : Tracking → List ℕ
frequency_lines t =
    packed_line (codes "freq_ppm") t.freq_ppm
    ++ (packed_line (codes "resid_freq_ppm") t.resid_freq_ppm ++ packed_line (codes "skew_ppm") t.skew_ppm)

-- the way to the reference clock, and the time between updates
unfoldable pub root_lines : Tracking → List ℕ
root_lines t =
    packed_line (codes "root_delay") t.root_delay
    ++ (packed_line (codes "root_dispersion") t.root_dispersion ++ packed_line (codes "last_update_interval") t.last_update_interval)

-- the clock error bound in nanoseconds, or `over` where it exceeds the largest
unfoldable pub bound_line : Option ℕ → List ℕ
bound_line (Some bound) = codes "bound," ++ (decimal bound ++ codes "\n")
bound_line None = codes "bound,over\n"

-- the eleven lines of a reply
unfoldable pub told_lines : Tracking → List ℕ
told_lines t =
    let bound = clock_error_bound (error_units t.root_delay.0 t.root_dispersion.0 t.current_correction.0) in
    reply_line t ++ (offset_lines t ++ (frequency_lines t ++ (root_lines t ++ bound_line bound)))

-- the line of bytes that are no reply
unfoldable pub refused_reply : ReplyFault → List ℕ
refused_reply fault.Short = codes "refused,short\n"
refused_reply fault.Version = codes "refused,version\n"
refused_reply fault.PacketType = codes "refused,type\n"
refused_reply fault.Command = codes "refused,command\n"
refused_reply fault.NotTracking = codes "refused,nottracking\n"
refused_reply (fault.Status status) = codes "refused,status," ++ (decimal status ++ codes "\n")
refused_reply (fault.Leap leap) = codes "refused,leap," ++ (decimal leap ++ codes "\n")

-- the lines of what was read
abbrev pub reply_lines : Result Tracking ReplyFault → List ℕ
reply_lines (Ok t) = told_lines t
reply_lines (Err fault) = refused_reply fault

-- what bytes tell as a reply
unfoldable pub reply_text : List ℕ → List ℕ
reply_text bytes = reply_lines (reply_of bytes)
