-- The bytes of chrony's messages as they are written, front to back: reserved and pad bytes are 0.
use Rattle.std.specs.Prelude.{ℕ, List, ◌++◌, replicate}
use Rattle.chrony_fraction.specs.declared.packed.Packed.{Packed}
use Rattle.candm_codec.specs.Numbers.{spelled}
use Rattle.candm_codec.specs.Reply.{code_of}
use Rattle.candm_codec.specs.declared.protocol.TheConstants.{VERSION, REQUEST_PACKET, REPLY_PACKET, COMMAND_TRACKING, REPLY_TRACKING, STATUS_SUCCESS}
use Rattle.candm_codec.specs.declared.request.Request.{Request}
use Rattle.candm_codec.specs.declared.tracking.RefTime.{RefTime}
use Rattle.candm_codec.specs.declared.tracking.Tracking.{Tracking}

-- what a reply to the request of this number begins with: bytes 0 to 27
unfoldable pub reply_header_text : ℕ → List ℕ
reply_header_text sequence =
    spelled 1 VERSION ++ spelled 1 REPLY_PACKET ++ spelled 2 0
    ++ spelled 2 COMMAND_TRACKING ++ spelled 2 REPLY_TRACKING ++ spelled 2 STATUS_SUCCESS
    ++ spelled 2 0 ++ spelled 2 0 ++ spelled 2 0
    ++ spelled 4 sequence ++ spelled 4 0 ++ spelled 4 0

-- the source: bytes 28 to 55
unfoldable pub source_text : Tracking → List ℕ
source_text t =
    spelled 4 t.ref_id ++ spelled 16 t.address ++ spelled 2 t.family ++ spelled 2 0
    ++ spelled 2 t.stratum ++ spelled 2 (code_of t.leap)

-- the reference time: bytes 56 to 67
unfoldable pub time_text : RefTime → List ℕ
time_text time = spelled 4 time.high ++ spelled 4 time.low ++ spelled 4 time.nsec

-- three packed numbers
unfoldable pub packed_text : Packed → Packed → Packed → List ℕ
packed_text a b c = spelled 4 a.0 ++ spelled 4 b.0 ++ spelled 4 c.0

-- the whole reply, of 104 bytes
unfoldable pub reply_text : Tracking → List ℕ
reply_text t =
    reply_header_text t.sequence ++ source_text t ++ time_text t.ref_time
    ++ packed_text t.current_correction t.last_offset t.rms_offset
    ++ packed_text t.freq_ppm t.resid_freq_ppm t.skew_ppm
    ++ packed_text t.root_delay t.root_dispersion t.last_update_interval

-- what a request begins with: bytes 0 to 11
unfoldable pub request_header_text : Request → List ℕ
request_header_text r =
    spelled 1 VERSION ++ spelled 1 REQUEST_PACKET ++ spelled 2 0
    ++ spelled 2 COMMAND_TRACKING ++ spelled 2 r.attempt ++ spelled 4 r.sequence

-- the whole request, of 104 bytes
unfoldable pub request_text : Request → List ℕ
request_text r = request_header_text r ++ replicate 92 0
