-- The parameters of the standard that a device may lack, and which of them need another. E1.20 table A-3 and section 10.
use Rattle.std.specs.Prelude.{ℕ, Bool, ◌==◌, ◌&&◌, ◌||◌, not, List, [], ◌∷◌}
use Rattle.std.specs.List.{list_any, list_all}

-- all that devices here can have, but for those that each must have: QUEUED_MESSAGE, which fetches what the fixture tells,
-- SUPPORTED_PARAMETERS, DEVICE_INFO, SOFTWARE_VERSION_LABEL, DMX_START_ADDRESS and IDENTIFY_DEVICE
abbrev pub optional_pids : List ℕ
optional_pids =
    0x0030 ∷ 0x0031 ∷ 0x0032 ∷ 0x0033 ∷ 0x0080 ∷ 0x0081 ∷ 0x0082 ∷ 0x0090 ∷ 0x00A0 ∷ 0x00B0 ∷ 0x00C1 ∷ 0x00C2
    ∷ 0x00E0 ∷ 0x00E1 ∷ 0x0120 ∷ 0x0121 ∷ 0x0122 ∷ 0x0200 ∷ 0x0201 ∷ 0x0202
    ∷ 0x0400 ∷ 0x0401 ∷ 0x0402 ∷ 0x0403 ∷ 0x0404 ∷ 0x0405 ∷ 0x0500 ∷ 0x0501 ∷ 0x0600 ∷ 0x0601 ∷ 0x0602
    ∷ 0x1010 ∷ 0x1020 ∷ 0x1021 ∷ 0x1031 ∷ []

abbrev pub is_optional : ℕ → Bool
is_optional pid = list_any (λ optional. optional == pid) optional_pids

-- pairs of parameters of which the second needs the first: it tells of what that one lists, names or starts
abbrev pub needs : List (ℕ × ℕ)
needs =
    (0x0030, 0x0031) ∷ (0x0030, 0x0032) ∷ (0x0030, 0x0033)
    ∷ (0x00A0, 0x00B0) ∷ (0x00E0, 0x00E1) ∷ (0x0120, 0x0121) ∷ (0x0120, 0x0122)
    ∷ (0x0200, 0x0201) ∷ (0x0200, 0x0202) ∷ (0x1020, 0x1021) ∷ []

-- whether a parameter is among these PIDs
abbrev pub leaves_out : List ℕ → ℕ → Bool
leaves_out pids pid = list_any (λ p. p == pid) pids

-- whether no parameter stays that needs one of these
abbrev pub leave_no_need : List ℕ → Bool
leave_no_need pids = list_all (λ pair. not (leaves_out pids pair.0) || leaves_out pids pair.1) needs

-- whether devices that these PIDs leave out lack a parameter: none that each must have
abbrev pub lacks : List ℕ → ℕ → Bool
lacks pids pid = is_optional pid && leaves_out pids pid
