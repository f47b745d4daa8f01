-- What is asked with a request is in its frame.
use Rattle.std.proofs.Common.{◌≡◌, Bool, true, false, cond, ◌==◌, ◌&&◌, length, refl}
use Rattle.std.proofs.lemmas.Bool.{eqb-true}
use Rattle.rdm_frame.specs.declared.uid.Uid.{Uid}
use Rattle.rdm_frame.specs.declared.frame.Frame.{Frame}
use Rattle.rdm_frame.specs.Addressing.{is_addressed, is_broadcast}
use Rattle.rdm_frame.specs.Reading.{uid_at}
use Rattle.rdm_responder.specs.Requests.{Request, Ignored, Branch, Muting, Get, Set, discovery_of, get_of, request_of}

abbrev pub Facts : Frame → Request → Type 0
Facts f (Get g) = (g ≡ f) × ((f.class == 0x20) ≡ true)
Facts f (Set g) = (g ≡ f) × ((f.class == 0x30) ≡ true)
Facts f (Muting muted g) = (g ≡ f) × ((f.pid == 0x0002) ≡ muted)
Facts f _ = Unit {0}

first_true : (a b : Bool) → (a && b) ≡ true → a ≡ true
first_true true b e = refl
first_true false b e = absurd cc

is_un_mute : (f : Frame) → ((f.pid == 0x0003) && (length f.body == 0)) ≡ true → (f.pid == 0x0002) ≡ false
is_un_mute f e = rw (eqb-true f.pid 0x0003 (first_true (f.pid == 0x0003) (length f.body == 0) e)) refl

discovery_facts : (f : Frame) (root branch mute un_mute : Bool) → ((f.pid == 0x0002) && (length f.body == 0)) ≡ mute → ((f.pid == 0x0003) && (length f.body == 0)) ≡ un_mute → Facts f (cond root (cond branch (Branch (uid_at f.body 0) (uid_at f.body 6)) (cond mute (Muting true f) (cond un_mute (Muting false f) Ignored))) Ignored)
discovery_facts f true true mute un_mute m u = tt
discovery_facts f true false true un_mute m u = (refl, first_true (f.pid == 0x0002) (length f.body == 0) m)
discovery_facts f true false false true m u = (refl, is_un_mute f u)
discovery_facts f true false false false m u = tt
discovery_facts f false branch mute un_mute m u = tt

discovery_is : (f : Frame) → Facts f (discovery_of f)
unfolding discovery_of
discovery_is f = discovery_facts f (f.sub == 0) ((f.pid == 0x0001) && (length f.body == 12)) ((f.pid == 0x0002) && (length f.body == 0)) ((f.pid == 0x0003) && (length f.body == 0)) refl refl

get_facts : (f : Frame) (broadcast : Bool) → (f.class == 0x20) ≡ true → Facts f (cond broadcast Ignored (Get f))
get_facts f true e = tt
get_facts f false e = (refl, e)

request_facts : (f : Frame) (here discovery get set : Bool) → (f.class == 0x20) ≡ get → (f.class == 0x30) ≡ set → Facts f (cond here (cond discovery (discovery_of f) (cond get (get_of f) (cond set (Set f) Ignored))) Ignored)
request_facts f true true get set g s = discovery_is f
request_facts f true false true set g s = get_facts f (is_broadcast f.dst) g
request_facts f true false false true g s = (refl, s)
request_facts f true false false false g s = tt
request_facts f false discovery get set g s = tt

pub request_is : (own : Uid) (f : Frame) → Facts f (request_of own f)
request_is own f = request_facts f (is_addressed own f.dst) (f.class == 0x10) (f.class == 0x20) (f.class == 0x30) refl refl
