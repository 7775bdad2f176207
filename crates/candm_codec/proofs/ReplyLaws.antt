-- A reply that is written stands for its value, and what stands is read.
use Rattle.std.proofs.Common.{◌≡◌, ◌<◌, ◌≤◌, ◌^◌, ℕ, List, length, drop, Ok, true, refl, arith}
use Rattle.std.specs.Prelude.{nat_le}
use Rattle.byteorder.specs.Numbers.{big_number-reads_back}
use Rattle.candm_codec.specs.Numbers.{number, spelled}
use Rattle.candm_codec.specs.Reply.{leap_at, code_of, tracking_at, IsTrackingReply, reply_of}
use Rattle.candm_codec.specs.Text.{reply_header_text, source_text, time_text, packed_text, reply_text}
use Rattle.candm_codec.specs.declared.protocol.TheConstants.{VERSION, REPLY_PACKET, COMMAND_TRACKING, REPLY_TRACKING, STATUS_SUCCESS, LARGEST_LEAP, REPLY_LENGTH}
use Rattle.candm_codec.specs.declared.tracking.Leap.{Leap}
use Rattle.candm_codec.specs.declared.tracking.Leap.TheVariants.{Normal, Insert, Delete, Unsynchronised}
use Rattle.candm_codec.specs.declared.tracking.Tracking.{Tracking}

-- the numbers of a tracking fit their fields
pub record Fits (t : Tracking) : Type 0 where
  pub sequence : t.sequence < 2 ^ 32
  pub ref_id : t.ref_id < 2 ^ 32
  pub address : t.address < 2 ^ 128
  pub family : t.family < 2 ^ 16
  pub stratum : t.stratum < 2 ^ 16
  pub high : t.ref_time.high < 2 ^ 32
  pub low : t.ref_time.low < 2 ^ 32
  pub nsec : t.ref_time.nsec < 2 ^ 32
  pub current_correction : t.current_correction.0 < 2 ^ 32
  pub last_offset : t.last_offset.0 < 2 ^ 32
  pub rms_offset : t.rms_offset.0 < 2 ^ 32
  pub freq_ppm : t.freq_ppm.0 < 2 ^ 32
  pub resid_freq_ppm : t.resid_freq_ppm.0 < 2 ^ 32
  pub skew_ppm : t.skew_ppm.0 < 2 ^ 32
  pub root_delay : t.root_delay.0 < 2 ^ 32
  pub root_dispersion : t.root_dispersion.0 < 2 ^ 32
  pub last_update_interval : t.last_update_interval.0 < 2 ^ 32

-- the bytes have the numbers of a reply that tells this
record HasNumbers (bytes : List ℕ) (t : Tracking) : Type 0 where
  long : length bytes ≡ 104
  version : number 1 0 bytes ≡ VERSION
  packet_type : number 1 1 bytes ≡ REPLY_PACKET
  command : number 2 4 bytes ≡ COMMAND_TRACKING
  reply : number 2 6 bytes ≡ REPLY_TRACKING
  success : number 2 8 bytes ≡ STATUS_SUCCESS
  sequence : number 4 16 bytes ≡ t.sequence
  ref_id : number 4 28 bytes ≡ t.ref_id
  address : number 16 32 bytes ≡ t.address
  family : number 2 48 bytes ≡ t.family
  stratum : number 2 52 bytes ≡ t.stratum
  leap : number 2 54 bytes ≡ code_of t.leap
  high : number 4 56 bytes ≡ t.ref_time.high
  low : number 4 60 bytes ≡ t.ref_time.low
  nsec : number 4 64 bytes ≡ t.ref_time.nsec
  current_correction : number 4 68 bytes ≡ t.current_correction.0
  last_offset : number 4 72 bytes ≡ t.last_offset.0
  rms_offset : number 4 76 bytes ≡ t.rms_offset.0
  freq_ppm : number 4 80 bytes ≡ t.freq_ppm.0
  resid_freq_ppm : number 4 84 bytes ≡ t.resid_freq_ppm.0
  skew_ppm : number 4 88 bytes ≡ t.skew_ppm.0
  root_delay : number 4 92 bytes ≡ t.root_delay.0
  root_dispersion : number 4 96 bytes ≡ t.root_dispersion.0
  last_update_interval : number 4 100 bytes ≡ t.last_update_interval.0

code_of-fits : (leap : Leap) → code_of leap < 256 ^ 2
code_of-fits Normal = omega arith
code_of-fits Insert = omega arith
code_of-fits Delete = omega arith
code_of-fits Unsynchronised = omega arith

code_of-known : (leap : Leap) → code_of leap ≤ LARGEST_LEAP
code_of-known Normal = omega arith
code_of-known Insert = omega arith
code_of-known Delete = omega arith
code_of-known Unsynchronised = omega arith

leap_at-code_of : (leap : Leap) → leap_at (code_of leap) ≡ leap
leap_at-code_of Normal = refl
leap_at-code_of Insert = refl
leap_at-code_of Delete = refl
leap_at-code_of Unsynchronised = refl

reply_text-numbers : (t : Tracking) → Fits t → HasNumbers (reply_text t) t
unfolding number spelled reply_header_text source_text time_text packed_text reply_text
reply_text-numbers t fits = record {
  long = refl;
  version = refl;
  packet_type = refl;
  command = refl;
  reply = refl;
  success = refl;
  sequence = big_number-reads_back 4 t.sequence (drop 20 (reply_text t)) fits.sequence;
  ref_id = big_number-reads_back 4 t.ref_id (drop 32 (reply_text t)) fits.ref_id;
  address = big_number-reads_back 16 t.address (drop 48 (reply_text t)) fits.address;
  family = big_number-reads_back 2 t.family (drop 50 (reply_text t)) fits.family;
  stratum = big_number-reads_back 2 t.stratum (drop 54 (reply_text t)) fits.stratum;
  leap = big_number-reads_back 2 (code_of t.leap) (drop 56 (reply_text t)) (code_of-fits t.leap);
  high = big_number-reads_back 4 t.ref_time.high (drop 60 (reply_text t)) fits.high;
  low = big_number-reads_back 4 t.ref_time.low (drop 64 (reply_text t)) fits.low;
  nsec = big_number-reads_back 4 t.ref_time.nsec (drop 68 (reply_text t)) fits.nsec;
  current_correction = big_number-reads_back 4 t.current_correction.0 (drop 72 (reply_text t)) fits.current_correction;
  last_offset = big_number-reads_back 4 t.last_offset.0 (drop 76 (reply_text t)) fits.last_offset;
  rms_offset = big_number-reads_back 4 t.rms_offset.0 (drop 80 (reply_text t)) fits.rms_offset;
  freq_ppm = big_number-reads_back 4 t.freq_ppm.0 (drop 84 (reply_text t)) fits.freq_ppm;
  resid_freq_ppm = big_number-reads_back 4 t.resid_freq_ppm.0 (drop 88 (reply_text t)) fits.resid_freq_ppm;
  skew_ppm = big_number-reads_back 4 t.skew_ppm.0 (drop 92 (reply_text t)) fits.skew_ppm;
  root_delay = big_number-reads_back 4 t.root_delay.0 (drop 96 (reply_text t)) fits.root_delay;
  root_dispersion = big_number-reads_back 4 t.root_dispersion.0 (drop 100 (reply_text t)) fits.root_dispersion;
  last_update_interval = big_number-reads_back 4 t.last_update_interval.0 (drop 104 (reply_text t)) fits.last_update_interval;
}

tracking_at-numbers : (bytes : List ℕ) (t : Tracking) → HasNumbers bytes t → t ≡ tracking_at bytes
tracking_at-numbers bytes t has =
    rw (has.sequence, has.ref_id, has.address, has.family, has.stratum, has.leap, leap_at-code_of t.leap)
    (rw (has.high, has.low, has.nsec, has.current_correction, has.last_offset, has.rms_offset)
    (rw (has.freq_ppm, has.resid_freq_ppm, has.skew_ppm, has.root_delay, has.root_dispersion, has.last_update_interval) refl))

stands-numbers : (bytes : List ℕ) (t : Tracking) → HasNumbers bytes t → IsTrackingReply bytes t
stands-numbers bytes t has = record {
  long = omega (arith, has.long);
  version = has.version;
  packet_type = has.packet_type;
  command = has.command;
  reply = has.reply;
  success = has.success;
  leap_known = rw has.leap (code_of-known t.leap);
  fields = tracking_at-numbers bytes t has;
}

-- what is written stands
pub reply_text-stands : (t : Tracking) → Fits t → IsTrackingReply (reply_text t) t
reply_text-stands t fits = stands-numbers (reply_text t) t (reply_text-numbers t fits)

-- what stands is read
pub reply_of-stands : (bytes : List ℕ) (t : Tracking) → IsTrackingReply bytes t → reply_of bytes ≡ Ok t
unfolding reply_of
reply_of-stands bytes t stands =
    let long : nat_le REPLY_LENGTH (length bytes) ≡ true = grind (arith, stands.long) in
    let known : nat_le (number 2 54 bytes) LARGEST_LEAP ≡ true = grind (arith, stands.leap_known) in
    rw (long, stands.version, stands.packet_type, stands.command, stands.reply, stands.success, known, stands.fields) refl
