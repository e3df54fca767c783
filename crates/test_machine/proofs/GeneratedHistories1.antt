-- Random histories of the grant machine: every reply and every note is the one that an independent implementation of its rules gave, and so is, after
-- some of them, of each value whether requests and replies alone show it to last, and whether it is live.
use Rattle.std.specs.Prelude.{◌≡◌, refl, true, false, List, [], ◌∷◌, replicate}
use Rattle.std.specs.declared.option.Option.TheVariants.{None, Some}
use Rattle.base64.specs.Rfc4648.{encode_symbols}
use Rattle.gnap_model.specs.declared.rights.Right.TheVariants.{Reference}
use Rattle.gnap_model.specs.Values.{value_text, code_text}
use Rattle.gnap_model.specs.declared.objects.Binding.TheVariants.{Httpsig}
use Rattle.gnap_model.specs.declared.objects.Verdict.TheVariants.{Grant, Deny, Unknown}
use Rattle.gnap_model.specs.declared.calls.Call.TheVariants.{Begin, Introspect, Lapse, Look, FindCode, Decide, Continue, Modify, Cancel, Rotate, Revoke}
use Rattle.gnap_model.specs.declared.objects.ErrorCode.TheVariants.{InvalidRequest, InvalidClient, InvalidInteraction, InvalidRotation, InvalidContinuation, RequestDenied, UnknownUser, UnknownInteraction, TooFast, TooManyAttempts, InvalidAccess}
use Rattle.gnap_model.specs.declared.calls.Reply.TheVariants.{Granted, Active, Inactive, Error, Lapsed, Pending, Shown, Decided, Continuing, Done, Rotated}
use Rattle.gnap_model.specs.declared.notes.Why.TheVariants.{ByRotation, ByModification, ByRevocation}
use Rattle.gnap_model.specs.declared.notes.Note.TheVariants.{Approved, Door, Finalized, Wrong, Retired}
use Rattle.test_machine.proofs.ExampleHistories.{Line, line, words, outcomes}
use Rattle.test_machine.proofs.GeneratedWords.{out, asked, told, object, ask_of, finish_by, modes_of, request_of, decide_of, token_out, finish_out, opened, terms, issued, pended, decided}
use Rattle.test_machine.proofs.GeneratedSetups.{rules_0, rules_1, rules_2, text_3, text_5, text_6, text_7, text_9, text_11, text_13, text_14, text_16, text_17, text_18, text_19, text_20, text_21, text_22, text_23, text_24, text_25, text_27, text_28, text_29, text_30, text_31, text_32, text_33, text_34, text_35, text_36, text_37, text_38, text_39, text_40, text_41, text_42, text_43, text_44, text_45, text_46, text_47, text_48, text_49, text_50, text_51, text_52, text_53, text_54, text_55, text_56, text_57, text_58, text_59, text_60, text_61, text_62, text_63, text_64, text_65, text_66, text_67, text_68, text_69, text_70, text_71, text_72, text_73}

-- ---- random history 0
abbrev lines_0 : List Line
lines_0 = line 1000 (words (8972169090513963472 ∷ 1597174506772649981 ∷ 1 ∷ 18446744073709551615 ∷ 14017923896518862875 ∷ 18446744073709551615 ∷ 1
    ∷ 13454487160988967488 ∷ 1 ∷ 12001167348626092782 ∷ 1 ∷ 5206040642293656431 ∷ 1 ∷ 1 ∷ 1 ∷ 7616682833720202684 ∷ 18446744073709551615 ∷ 15206175648606554553
    ∷ 4121805626687132083 ∷ 18446744073709551615 ∷ 1 ∷ 18446744073709551615 ∷ 1 ∷ 17702456006232844118 ∷ 1 ∷ 16507040854827114773 ∷ 18446744073709551615
    ∷ 18446744073709551615 ∷ 1 ∷ 18446744073709551615 ∷ 4455728524149741600 ∷ 1 ∷ 1 ∷ 18446744073709551615 ∷ []) 0)
    (Begin text_3 (request_of ((ask_of None ((Reference text_6) ∷ (Reference text_6) ∷ (Reference text_6) ∷ []) false) ∷ []) false false (Some text_3) false
    (Some text_27) (Some (modes_of false true false None))) None)
    ∷ line 1601 (words (1 ∷ 10010819863401146449 ∷ 1 ∷ 1 ∷ 18446744073709551615 ∷ 1 ∷ []) 18446744073709551615) (Look text_14 text_28)
    ∷ line 1601 (words (1 ∷ 1 ∷ 3145434249111244667 ∷ 10504293498607115545 ∷ 18446744073709551615 ∷ 1 ∷ 18446744073709551615 ∷ 18446744073709551615
    ∷ 15957132824111230959 ∷ 18446744073709551615 ∷ 18446744073709551615 ∷ 1 ∷ 1 ∷ 17588879784542909209 ∷ 1 ∷ 1 ∷ 1 ∷ 1 ∷ 3749972798785923698
    ∷ 18446744073709551615 ∷ 1722863760115880945 ∷ 1598597758761167189 ∷ 12170507858113118685 ∷ 1 ∷ 1 ∷ 1 ∷ 1 ∷ 17573548713832471109 ∷ 16046785672636891239
    ∷ 3589030731149766771 ∷ 1 ∷ 18446744073709551615 ∷ 18446744073709551615 ∷ 18446744073709551615 ∷ []) 14292948716995721714)
    (Decide text_14 (decide_of text_28 Grant None None))
    ∷ line 1601 (words [] 18446744073709551615) (Continue text_3 text_29 (Some []))
    ∷ line 1601 (words [] 25599999999)
    (Begin text_30 (request_of ((ask_of (Some text_31) ((Reference text_5) ∷ []) false) ∷ []) false false (Some text_30) false (Some text_27)
    (Some (modes_of false true true (Some (finish_by true text_32 text_33 true))))) None)
    ∷ line 2201 (words [] 0) (Begin text_3 (request_of [] false true (Some text_3) false None (Some (modes_of false true false None))) None)
    ∷ line 2201 (words [] 0) (Continue text_3 text_34 (Some text_28))
    ∷ line 3401 (words [] 25600000001) (FindCode text_14 text_35)
    ∷ line 3403 (words [] 12641241524063129686) (Introspect text_3 text_34 (Some Httpsig) (Some ((Reference text_13) ∷ (Reference text_13) ∷ [])))
    ∷ []

pub history_0 : outcomes rules_0 [] lines_0 ≡
    out (Pending text_29 (modes_of false true false None) text_28 text_35 (replicate 32 0) 600 None)
    (opened 1 text_3 false (Some text_27) 2593000
    ∷ terms 1 ((ask_of None ((Reference text_6) ∷ (Reference text_6) ∷ (Reference text_6) ∷ []) false) ∷ []) false false ∷ Door 1 text_29 1005
    ∷ pended 1 1600 2200 (modes_of false true false None) text_28 (Some text_35) None ∷ [])
    ∷ out (Error UnknownInteraction) []
    ∷ out (Error UnknownInteraction) []
    ∷ out (Error InvalidInteraction) (Finalized 1 ∷ [])
    ∷ out (Error RequestDenied) []
    ∷ out (Pending text_34 (modes_of false true false None) text_36 text_35 (replicate 32 0) 600 None)
    (opened 2 text_3 false None 2594201 ∷ terms 2 [] false true ∷ Door 2 text_34 2206
    ∷ pended 2 2801 3401 (modes_of false true false None) text_36 (Some text_35) None ∷ [])
    ∷ out (Error InvalidInteraction) (Wrong 2 ∷ [])
    ∷ out (Error UnknownInteraction) []
    ∷ out (Error InvalidAccess) []
    ∷ []
unfolding value_text encode_symbols code_text
history_0 = refl

-- ---- random history 1
abbrev lines_1 : List Line
lines_1 = line 1700000004 (words (14984268830943342111 ∷ 2254222591240136774 ∷ 18446744073709551615 ∷ 5883952563071542029 ∷ []) 0)
    (Begin text_7 (request_of [] false true (Some text_7) false None (Some (modes_of false false true None))) None)
    ∷ line 1700000005 (words [] 0) (Look text_14 text_37)
    ∷ line 1700000006 (words (18446744073709551615 ∷ 18446744073709551615 ∷ 1 ∷ 1 ∷ 1 ∷ 1 ∷ 18446744073709551615 ∷ 16686406073647126455 ∷ 1 ∷ 1
    ∷ 12842679917949571413 ∷ 18446744073709551615 ∷ 18446744073709551615 ∷ 17017591531042178665 ∷ 6179705018462629216 ∷ 11819093165541968838
    ∷ 18446744073709551615 ∷ 13719378273736489196 ∷ 1 ∷ 1 ∷ 1068382693407854899 ∷ 1 ∷ 18446744073709551615 ∷ 1 ∷ 9792204506891608457 ∷ 1 ∷ 3080638148130022131
    ∷ 18446744073709551615 ∷ 18446744073709551615 ∷ 18446744073709551615 ∷ 18446744073709551615 ∷ 16126381581503154792 ∷ 10967893476400729240
    ∷ 18446744073709551615 ∷ []) 0) (Modify text_7 text_38 (request_of [] false true (Some text_7) true None (Some (modes_of true true false None))))
    ∷ line 1700000006 (words [] 25600000001) (Continue text_7 text_39 (Some text_40))
    ∷ line 1700000012 (words [] 25599999999) (Continue text_7 text_39 None)
    ∷ line 1700000009 (words [] 18446744073709551615) (Revoke text_3 text_39)
    ∷ line 1700000017 (words [] 25600000001)
    (Begin text_3 (request_of ((ask_of (Some text_31) ((Reference text_5) ∷ (Reference text_5) ∷ []) false)
    ∷ (ask_of (Some text_41) ((Reference text_5) ∷ []) false) ∷ []) false false (Some text_3) false None None) (Some 1700000611))
    ∷ line 1700000018 (words [] 25600000001) (Revoke text_3 text_38)
    ∷ line 1700000018 (words [] 25600000001) (Rotate text_3 text_42 None)
    ∷ []

pub history_1 : outcomes rules_0 [] lines_1 ≡
    out (Pending text_38 (modes_of false false true None) text_37 text_35 (replicate 32 0) 600 None)
    (opened 1 text_7 false None 1702592004 ∷ terms 1 [] false true ∷ Door 1 text_38 1700000009
    ∷ pended 1 1700000604 1700001204 (modes_of false false true None) text_37 (Some text_35) None ∷ [])
    ∷ out (Shown [] text_7 599 true None) []
    ∷ out (Pending text_39 (modes_of true true false None) text_43 text_44 (replicate 32 0) 600 None)
    (terms 1 [] false true ∷ Door 1 text_39 1700000011 ∷ pended 1 1700000606 1700001206 (modes_of true true false None) text_43 (Some text_44) None ∷ [])
    ∷ out (Error InvalidInteraction) (Wrong 1 ∷ [])
    ∷ out (Continuing text_45) (Door 1 text_45 1700000017 ∷ [])
    ∷ out (Error InvalidRequest) []
    ∷ out (Granted text_46 ((token_out text_47 text_48 (Some text_31) ((Reference text_5) ∷ (Reference text_5) ∷ []) 594 false)
    ∷ (token_out text_49 text_42 (Some text_41) ((Reference text_5) ∷ []) 594 false) ∷ []) false None None)
    (opened 2 text_3 false None 1700000611
    ∷ terms 2 ((ask_of (Some text_31) ((Reference text_5) ∷ (Reference text_5) ∷ []) false) ∷ (ask_of (Some text_41) ((Reference text_5) ∷ []) false) ∷ [])
    false false ∷ Approved 2 [] ∷ issued 6 2 (Some text_31) ((Reference text_5) ∷ (Reference text_5) ∷ []) false text_3 1700000017 1700000611 text_47 text_48
    ∷ issued 8 2 (Some text_41) ((Reference text_5) ∷ []) false text_3 1700000017 1700000611 text_49 text_42 ∷ Door 2 text_46 1700000022 ∷ [])
    ∷ out (Error InvalidRequest) []
    ∷ out (Rotated (token_out text_50 text_51 (Some text_41) ((Reference text_5) ∷ []) 593 false))
    (Retired 8 ByRotation ∷ issued 11 2 (Some text_41) ((Reference text_5) ∷ []) false text_3 1700000018 1700000611 text_50 text_51 ∷ [])
    ∷ []
unfolding value_text encode_symbols code_text
history_1 = refl

pub tokens_1 : told rules_0 lines_1
    (asked 1700001203 (text_47 ∷ text_49 ∷ text_50 ∷ []) ∷ asked 1700000610 (text_47 ∷ text_49 ∷ text_50 ∷ [])
    ∷ asked 1700000604 (text_47 ∷ text_49 ∷ text_50 ∷ []) ∷ [])
    ≡ (false ∷ false ∷ false ∷ false ∷ false ∷ false ∷ true ∷ true ∷ false ∷ false ∷ true ∷ true ∷ true ∷ true ∷ false ∷ false ∷ true ∷ true ∷ [])
unfolding value_text encode_symbols code_text
tokens_1 = refl

-- ---- random history 2
abbrev lines_2 : List Line
lines_2 = line 1000 (words [] 0)
    (Begin text_3 (request_of [] false true (Some text_3) false (Some text_27)
    (Some (modes_of false true false (Some (finish_by false text_32 text_33 false))))) None)
    ∷ line 2200 (words [] 0) (Introspect text_9 text_52 (Some Httpsig) None)
    ∷ line 2199 (words [] 0) (Continue text_3 text_52 None)
    ∷ line 2198 (words [] 0) (Begin text_3
    (request_of ((ask_of None ((Reference text_6) ∷ []) true) ∷ []) true true (Some text_3) false None
    (Some (modes_of false true false (Some (finish_by true text_32 text_33 false))))) None)
    ∷ line 2198 (words [] 0) (Begin text_3
    (request_of ((ask_of None ((Reference text_6) ∷ []) false) ∷ []) true false (Some text_3) false None (Some (modes_of false true false None))) (Some 2801))
    ∷ line 2800 (words [] 25599999999) (Look text_14 text_45)
    ∷ line 2801 (words (1 ∷ 18446744073709551615 ∷ []) 1) (Continue text_3 text_48 (Some text_40))
    ∷ []

pub history_2 : outcomes rules_0 [] lines_2 ≡
    out (Pending text_53 (modes_of false true false (Some (finish_by false text_32 text_33 false))) text_52 text_35 text_34 600 None)
    (opened 1 text_3 false (Some text_27) 2593000 ∷ terms 1 [] false true ∷ Door 1 text_53 1005
    ∷ pended 1 1600 2200 (modes_of false true false (Some (finish_by false text_32 text_33 false))) text_52 (Some text_35) (Some text_34) ∷ [])
    ∷ out Inactive []
    ∷ out (Error InvalidContinuation) []
    ∷ out (Pending text_36 (modes_of false true false (Some (finish_by true text_32 text_33 false))) text_45 text_35 text_47 600 None)
    (opened 2 text_3 false None 2594200 ∷ terms 2 ((ask_of None ((Reference text_6) ∷ []) true) ∷ []) true true ∷ Door 2 text_36 2205
    ∷ pended 2 2800 3400 (modes_of false true false (Some (finish_by true text_32 text_33 false))) text_45 (Some text_35) (Some text_47) ∷ [])
    ∷ out (Pending text_48 (modes_of false true false None) text_49 text_44 (replicate 32 0) 600 None)
    (opened 3 text_3 false None 2801 ∷ terms 3 ((ask_of None ((Reference text_6) ∷ []) false) ∷ []) true false ∷ Door 3 text_48 2205
    ∷ pended 3 2800 3400 (modes_of false true false None) text_49 (Some text_44) None ∷ [])
    ∷ out (Error UnknownInteraction) []
    ∷ out (Error InvalidContinuation) []
    ∷ []
unfolding value_text encode_symbols code_text
history_2 = refl

-- ---- random history 3
abbrev lines_3 : List Line
lines_3 = line 0 (words (18446744073709551615 ∷ 11105262664271084607 ∷ 1 ∷ 1 ∷ 18446744073709551615 ∷ 18446744073709551615 ∷ 18446744073709551615
    ∷ 13017027364725341257 ∷ 1 ∷ 1 ∷ 6285953607763398966 ∷ 17596150349158591215 ∷ 1 ∷ 13025924981046659747 ∷ 1 ∷ 17457212686275683720 ∷ 4510662657134056877 ∷ 1
    ∷ 1 ∷ 1 ∷ 1 ∷ 14991406321768062277 ∷ 1 ∷ 18446744073709551615 ∷ 1 ∷ 1 ∷ 18446744073709551615 ∷ 18446744073709551615 ∷ 18446744073709551615
    ∷ 18446744073709551615 ∷ 1 ∷ 7104008503712998707 ∷ 11013032901399058477 ∷ 1 ∷ []) 2295445055161271448)
    (Begin text_3 (request_of ((ask_of None ((object text_16 (Some (text_17 ∷ [])) (Some (text_21 ∷ [])) None None None text_20) ∷ []) false) ∷ []) true false
    (Some text_3) false (Some text_27) (Some (modes_of false false true None))) None)
    ∷ line 1 (words (1 ∷ 1 ∷ []) 0)
    (Introspect text_11 text_54 (Some Httpsig) (Some ((object text_16 (Some (text_18 ∷ [])) (Some (text_21 ∷ [])) None None None text_20) ∷ [])))
    ∷ line 1 (words [] 0) (Rotate text_3 text_55 None)
    ∷ []

pub history_3 : outcomes rules_1 [] lines_3 ≡
    out (Granted text_39 ((token_out text_54 text_55 None ((object text_16 (Some (text_17 ∷ [])) (Some (text_21 ∷ [])) None None None text_20) ∷ []) 3600 false)
    ∷ []) true None None) (opened 1 text_3 false (Some text_27) 2592000
    ∷ terms 1 ((ask_of None ((object text_16 (Some (text_17 ∷ [])) (Some (text_21 ∷ [])) None None None text_20) ∷ []) false) ∷ []) true false
    ∷ Approved 1 [] ∷ issued 1 1 None ((object text_16 (Some (text_17 ∷ [])) (Some (text_21 ∷ [])) None None None text_20) ∷ []) false text_3 0 3600 text_54
    text_55 ∷ Door 1 text_39 5 ∷ [])
    ∷ out (Error InvalidAccess) []
    ∷ out (Rotated (token_out text_36 text_45 None ((object text_16 (Some (text_17 ∷ [])) (Some (text_21 ∷ [])) None None None text_20) ∷ []) 3600 false))
    (Retired 1 ByRotation ∷ issued 4 1 None ((object text_16 (Some (text_17 ∷ [])) (Some (text_21 ∷ [])) None None None text_20) ∷ []) false text_3 1 3601
    text_36 text_45 ∷ [])
    ∷ []
unfolding value_text encode_symbols code_text
history_3 = refl

pub tokens_3 : told rules_1 lines_3 (asked 2591999 (text_54 ∷ text_36 ∷ []) ∷ asked 3599 (text_54 ∷ text_36 ∷ []) ∷ asked 2592000 (text_54 ∷ text_36 ∷ []) ∷ [])
    ≡ (false ∷ false ∷ false ∷ false ∷ false ∷ false ∷ true ∷ true ∷ false ∷ false ∷ false ∷ false ∷ [])
unfolding value_text encode_symbols code_text
tokens_3 = refl

-- ---- random history 4
abbrev lines_4 : List Line
lines_4 = line 1002 (words (5434459028549760901 ∷ 1 ∷ []) 0)
    (Begin text_3 (request_of ((ask_of (Some text_31) ((object text_16 None None None None None text_20) ∷ []) false) ∷ []) true false (Some text_3) false
    (Some text_27) (Some (modes_of false false true None))) None)
    ∷ line 1003 (words [] 25599999999) (Decide text_14 (decide_of text_52 Grant None (Some text_56)))
    ∷ line 1009 (words (17310102967706623242 ∷ 5284668613519525178 ∷ 18446744073709551615 ∷ 1 ∷ []) 0) (Continue text_3 text_57 None)
    ∷ line 1010 (words [] 0) (Introspect text_11 text_58 (Some Httpsig) None)
    ∷ []

pub history_4 : outcomes rules_2 [] lines_4 ≡
    out (Pending text_57 (modes_of false false true None) text_52 text_35 (replicate 32 0) 600 None)
    (opened 1 text_3 false (Some text_27) 2593002
    ∷ terms 1 ((ask_of (Some text_31) ((object text_16 None None None None None text_20) ∷ []) false) ∷ []) true false ∷ Door 1 text_57 1007
    ∷ pended 1 1602 2202 (modes_of false false true None) text_52 (Some text_35) None ∷ [])
    ∷ out (Decided None) (decided 1 Grant None ((object text_16 None None None None None text_20) ∷ []) (Some text_56) ∷ [])
    ∷ out (Granted text_45 ((token_out text_58 text_59 (Some text_31) ((object text_16 None None None None None text_20) ∷ []) 3600 false) ∷ []) true None None)
    (Approved 1 ((object text_16 None None None None None text_20) ∷ [])
    ∷ issued 3 1 (Some text_31) ((object text_16 None None None None None text_20) ∷ []) false text_3 1009 4609 text_58 text_59 ∷ Door 1 text_45 1014 ∷ [])
    ∷ out Inactive []
    ∷ []
unfolding value_text encode_symbols code_text
history_4 = refl

pub tokens_4 : told rules_2 lines_4 (asked 2201 (text_58 ∷ []) ∷ asked 1010 (text_58 ∷ []) ∷ asked 4609 (text_58 ∷ []) ∷ [])
    ≡ (true ∷ true ∷ true ∷ true ∷ false ∷ false ∷ [])
unfolding value_text encode_symbols code_text
tokens_4 = refl

-- ---- random history 5
abbrev lines_5 : List Line
lines_5 = line 1700000000 (words [] 25599999999)
    (Begin text_3 (request_of ((ask_of (Some text_31)
    ((Reference text_6) ∷ (object text_16 (Some (text_17 ∷ [])) (Some (text_19 ∷ [])) None None (Some text_22) text_20) ∷ []) false)
    ∷ (ask_of (Some text_41) ((object text_16 (Some (text_17 ∷ [])) (Some (text_19 ∷ [])) None None (Some text_22) text_20) ∷ []) true) ∷ []) false false
    (Some text_3) true None (Some (modes_of false true false (Some (finish_by false text_32 text_60 true))))) None)
    ∷ line 1700000600 (words [] 25599999999) (Look text_14 text_52)
    ∷ line 1700000600 (words (1 ∷ 6342545590238609037 ∷ 18446744073709551615 ∷ 16730951267161920512 ∷ 18446744073709551615 ∷ 1 ∷ []) 0)
    (Begin text_3 (request_of ((ask_of (Some text_31)
    ((object text_16 (Some (text_17 ∷ text_18 ∷ [])) (Some (text_19 ∷ [])) None None None text_20)
    ∷ (object text_16 (Some (text_17 ∷ text_18 ∷ [])) (Some (text_19 ∷ [])) None None None text_20) ∷ []) false)
    ∷ (ask_of (Some text_41) ((Reference text_6) ∷ []) false) ∷ []) false false (Some text_3) false None (Some (modes_of true false false None))) None)
    ∷ line 1700000600 (words [] 25599999999) (Continue text_3 text_61 None)
    ∷ []

pub history_5 : outcomes rules_1 [] lines_5 ≡
    out (Pending text_53 (modes_of false true false (Some (finish_by false text_32 text_60 true))) text_52 text_62 text_34 600 (Some text_3))
    (opened 1 text_3 true None 1702592000
    ∷ terms 1 ((ask_of (Some text_31)
    ((Reference text_6) ∷ (object text_16 (Some (text_17 ∷ [])) (Some (text_19 ∷ [])) None None (Some text_22) text_20) ∷ []) false)
    ∷ (ask_of (Some text_41) ((object text_16 (Some (text_17 ∷ [])) (Some (text_19 ∷ [])) None None (Some text_22) text_20) ∷ []) true) ∷ []) false false
    ∷ Door 1 text_53 1700000005
    ∷ pended 1 1700000600 1700001200 (modes_of false true false (Some (finish_by false text_32 text_60 true))) text_52 (Some text_62) (Some text_34) ∷ [])
    ∷ out (Error UnknownInteraction) []
    ∷ out (Pending text_61 (modes_of true false false None) text_63 (replicate 8 0) (replicate 32 0) 600 None)
    (opened 2 text_3 false None 1702592600
    ∷ terms 2 ((ask_of (Some text_31)
    ((object text_16 (Some (text_17 ∷ text_18 ∷ [])) (Some (text_19 ∷ [])) None None None text_20)
    ∷ (object text_16 (Some (text_17 ∷ text_18 ∷ [])) (Some (text_19 ∷ [])) None None None text_20) ∷ []) false)
    ∷ (ask_of (Some text_41) ((Reference text_6) ∷ []) false) ∷ []) false false ∷ Door 2 text_61 1700000605
    ∷ pended 2 1700001200 1700001800 (modes_of true false false None) text_63 None None ∷ [])
    ∷ out (Error TooFast) []
    ∷ []
unfolding value_text encode_symbols code_text
history_5 = refl

-- ---- random history 6
abbrev lines_6 : List Line
lines_6 = line 0 (words (18446744073709551615 ∷ 1 ∷ 1 ∷ 18446744073709551615 ∷ []) 0)
    (Begin text_3 (request_of ((ask_of (Some text_31) ((Reference text_5) ∷ (Reference text_5) ∷ (Reference text_5) ∷ []) true)
    ∷ (ask_of (Some text_41) ((Reference text_5) ∷ []) true) ∷ []) false true (Some text_3) true (Some text_27) (Some (modes_of false false true None))) None)
    ∷ line 1200 (words [] 0) (Look text_14 text_28)
    ∷ line 1190 (words [] 0) (FindCode text_14 text_62)
    ∷ line 1199 (words [] 0) (FindCode text_14 text_35)
    ∷ line 1198 (words [] 0) (Begin text_3
    (request_of ((ask_of (Some text_31) ((Reference text_5) ∷ []) false) ∷ (ask_of (Some text_41) ((Reference text_6) ∷ (Reference text_6) ∷ []) true) ∷ [])
    false false (Some text_3) false None (Some (modes_of false true false (Some (finish_by false text_64 text_60 false))))) None)
    ∷ line 1205 (words (8391431870114327348 ∷ 6870634698418012993 ∷ 16554873237674804721 ∷ 1 ∷ 4762650068893007142 ∷ 16022824001904921758 ∷ 56932924425291677
    ∷ 17670371430575845698 ∷ 4297832246082491016 ∷ 5313027081033472416 ∷ 18446744073709551615 ∷ 18446744073709551615 ∷ 1 ∷ 357254855715259853
    ∷ 18446744073709551615 ∷ 1 ∷ 18446744073709551615 ∷ 17176730123037475082 ∷ 1 ∷ 16858930537384164555 ∷ 18446744073709551615 ∷ 1 ∷ 18446744073709551615 ∷ 1
    ∷ 18446744073709551615 ∷ 18446744073709551615 ∷ 9189569089057037406 ∷ 17017479756441815402 ∷ 1 ∷ 15334052305098849800 ∷ 1 ∷ 1419111186507213485
    ∷ 14756972585474351034 ∷ 18446744073709551615 ∷ []) 25599999999) (Cancel text_7 text_34)
    ∷ line 1207 (words [] 0) (Decide text_14 (decide_of text_36 Unknown (Some ((Reference text_6) ∷ [])) (Some text_56)))
    ∷ line 1210 (words [] 0) (Revoke text_3 text_47)
    ∷ line 2399 (words [] 0) (Continue text_3 text_34 (Some text_47))
    ∷ []

pub history_6 : outcomes rules_0 [] lines_6 ≡
    out (Pending text_65 (modes_of false false true None) text_28 text_35 (replicate 32 0) 600 (Some text_3))
    (opened 1 text_3 true (Some text_27) 2592000
    ∷ terms 1 ((ask_of (Some text_31) ((Reference text_5) ∷ (Reference text_5) ∷ (Reference text_5) ∷ []) true)
    ∷ (ask_of (Some text_41) ((Reference text_5) ∷ []) true) ∷ []) false true ∷ Door 1 text_65 5
    ∷ pended 1 600 1200 (modes_of false false true None) text_28 (Some text_35) None ∷ [])
    ∷ out (Error UnknownInteraction) []
    ∷ out (Error UnknownInteraction) []
    ∷ out (Error UnknownInteraction) []
    ∷ out (Pending text_34 (modes_of false true false (Some (finish_by false text_64 text_60 false))) text_36 text_35 text_45 600 None)
    (opened 2 text_3 false None 2593200
    ∷ terms 2 ((ask_of (Some text_31) ((Reference text_5) ∷ []) false) ∷ (ask_of (Some text_41) ((Reference text_6) ∷ (Reference text_6) ∷ []) true) ∷ []) false
    false ∷ Door 2 text_34 1205 ∷ pended 2 1800 2400 (modes_of false true false (Some (finish_by false text_64 text_60 false))) text_36 (Some text_35)
    (Some text_45) ∷ [])
    ∷ out (Error InvalidClient) []
    ∷ out (Decided (Some (finish_out (finish_by false text_64 text_60 false) text_45 text_47)))
    (decided 2 Unknown (Some text_47) ((Reference text_6) ∷ []) (Some text_56) ∷ [])
    ∷ out (Error InvalidRequest) []
    ∷ out (Error UnknownUser) (Finalized 2 ∷ [])
    ∷ []
unfolding value_text encode_symbols code_text
history_6 = refl

-- ---- random history 7
abbrev lines_7 : List Line
lines_7 = line 5 (words [] 0) (Begin text_3
    (request_of ((ask_of (Some text_31) ((object text_16 (Some (text_17 ∷ text_18 ∷ [])) (Some (text_19 ∷ [])) None None None text_20) ∷ []) false)
    ∷ (ask_of (Some text_41) ((Reference text_6) ∷ (object text_16 (Some (text_17 ∷ text_18 ∷ [])) (Some (text_19 ∷ [])) None None None text_20) ∷ []) true)
    ∷ []) false false (Some text_3) false (Some text_27) (Some (modes_of false true false (Some (finish_by true text_32 text_60 true))))) (Some 2592001))
    ∷ line 10 (words [] 0) (Decide text_14 (decide_of text_52 Grant None (Some text_56)))
    ∷ line 13 (words [] 0) (FindCode text_14 text_35)
    ∷ line 19 (words [] 0) (Continue text_3 text_53 (Some text_36))
    ∷ line 24 (words [] 0) (Revoke text_3 text_47)
    ∷ line 29 (words [] 0) (Introspect text_9 text_48 None None)
    ∷ line 34 (words [] 0) (Introspect text_9 text_45 None None)
    ∷ line 38 (words [] 0) (FindCode text_14 text_62)
    ∷ []

pub history_7 : outcomes rules_1 [] lines_7 ≡
    out (Pending text_53 (modes_of false true false (Some (finish_by true text_32 text_60 true))) text_52 text_35 text_34 600 None)
    (opened 1 text_3 false (Some text_27) 2592001
    ∷ terms 1 ((ask_of (Some text_31) ((object text_16 (Some (text_17 ∷ text_18 ∷ [])) (Some (text_19 ∷ [])) None None None text_20) ∷ []) false)
    ∷ (ask_of (Some text_41) ((Reference text_6) ∷ (object text_16 (Some (text_17 ∷ text_18 ∷ [])) (Some (text_19 ∷ [])) None None None text_20) ∷ []) true)
    ∷ []) false false ∷ Door 1 text_53 10
    ∷ pended 1 605 1205 (modes_of false true false (Some (finish_by true text_32 text_60 true))) text_52 (Some text_35) (Some text_34) ∷ [])
    ∷ out (Decided (Some (finish_out (finish_by true text_32 text_60 true) text_34 text_36)))
    (decided 1 Grant (Some text_36)
    ((object text_16 (Some (text_17 ∷ text_18 ∷ [])) (Some (text_19 ∷ [])) None None None text_20) ∷ (Reference text_6)
    ∷ (object text_16 (Some (text_17 ∷ text_18 ∷ [])) (Some (text_19 ∷ [])) None None None text_20) ∷ []) (Some text_56) ∷ [])
    ∷ out (Error UnknownInteraction) []
    ∷ out (Granted text_42 ((token_out text_45 text_47 (Some text_31)
    ((object text_16 (Some (text_17 ∷ text_18 ∷ [])) (Some (text_19 ∷ [])) None None None text_20) ∷ []) 3600 false)
    ∷ (token_out text_48 text_49 (Some text_41)
    ((Reference text_6) ∷ (object text_16 (Some (text_17 ∷ text_18 ∷ [])) (Some (text_19 ∷ [])) None None None text_20) ∷ []) 3600 true) ∷ []) false None None)
    (Approved 1 ((object text_16 (Some (text_17 ∷ text_18 ∷ [])) (Some (text_19 ∷ [])) None None None text_20) ∷ (Reference text_6)
    ∷ (object text_16 (Some (text_17 ∷ text_18 ∷ [])) (Some (text_19 ∷ [])) None None None text_20) ∷ [])
    ∷ issued 5 1 (Some text_31) ((object text_16 (Some (text_17 ∷ text_18 ∷ [])) (Some (text_19 ∷ [])) None None None text_20) ∷ []) false text_3 19 3619
    text_45 text_47 ∷ issued 7 1 (Some text_41)
    ((Reference text_6) ∷ (object text_16 (Some (text_17 ∷ text_18 ∷ [])) (Some (text_19 ∷ [])) None None None text_20) ∷ []) true text_3 19 3619 text_48
    text_49 ∷ Door 1 text_42 24 ∷ [])
    ∷ out Done (Retired 5 ByRevocation ∷ [])
    ∷ out (Active ((object text_16 (Some (text_17 ∷ text_18 ∷ [])) (Some (text_19 ∷ [])) None None None text_20) ∷ []) 19 3619 text_3 true) []
    ∷ out Inactive []
    ∷ out (Error UnknownInteraction) []
    ∷ []
unfolding value_text encode_symbols code_text
history_7 = refl

pub tokens_7 : told rules_1 lines_7 (asked 1204 (text_45 ∷ text_48 ∷ []) ∷ asked 3618 (text_45 ∷ text_48 ∷ []) ∷ asked 2592001 (text_45 ∷ text_48 ∷ []) ∷ [])
    ≡ (false ∷ false ∷ true ∷ true ∷ false ∷ false ∷ true ∷ true ∷ false ∷ false ∷ false ∷ false ∷ [])
unfolding value_text encode_symbols code_text
tokens_7 = refl

-- ---- random history 8
abbrev lines_8 : List Line
lines_8 = line 1000 (words (8221249140312907029 ∷ 1 ∷ []) 0)
    (Begin text_3 (request_of ((ask_of (Some text_31) ((Reference text_5) ∷ []) false) ∷ (ask_of (Some text_41) ((Reference text_6) ∷ []) true)
    ∷ (ask_of (Some text_66) ((Reference text_5) ∷ []) false) ∷ (ask_of (Some text_67) ((Reference text_6) ∷ []) false) ∷ []) false false (Some text_3) false
    (Some text_27) (Some (modes_of false true false None))) None)
    ∷ line 1000 (words [] 0) (Begin text_3
    (request_of ((ask_of None ((Reference text_5) ∷ (Reference text_6) ∷ []) false) ∷ []) true false (Some text_3) true (Some text_27)
    (Some (modes_of false true false None))) (Some 1005))
    ∷ line 1000 (words [] 8844056884756161081)
    (Begin text_3 (request_of ((ask_of (Some text_31) ((Reference text_6) ∷ (Reference text_6) ∷ (Reference text_5) ∷ []) false) ∷ []) false false (Some text_3)
    true None (Some (modes_of true true false None))) None)
    ∷ line 1004 (words (6886174522317682152 ∷ 18446744073709551615 ∷ 1 ∷ 4484467810736854737 ∷ []) 25599999999)
    (Decide text_14 (decide_of text_36 Deny (Some ((Reference text_5) ∷ (Reference text_6) ∷ [])) (Some text_56)))
    ∷ line 1008 (words [] 18446744073709551615) (Continue text_3 text_34 None)
    ∷ line 1014 (words [] 25599999999) (Revoke text_3 text_45)
    ∷ line 1019 (words [] 2) (Rotate text_3 text_47 None)
    ∷ line 2199 (words [] 0) (Decide text_14 (decide_of text_47 Deny (Some ((Reference text_5) ∷ [])) (Some text_56)))
    ∷ line 2203 (words [] 13664282843218151007)
    (Modify text_3 text_45 (request_of
    ((ask_of (Some text_31) ((Reference text_6) ∷ []) true) ∷ (ask_of (Some text_41) ((Reference text_5) ∷ []) true)
    ∷ (ask_of (Some text_66) ((Reference text_13) ∷ []) true) ∷ (ask_of (Some text_67) ((Reference text_5) ∷ []) true)
    ∷ (ask_of (Some text_68) ((Reference text_6) ∷ []) true) ∷ (ask_of (Some text_69) ((Reference text_6) ∷ []) true)
    ∷ (ask_of (Some text_70) ((Reference text_5) ∷ (Reference text_6) ∷ []) false) ∷ (ask_of (Some text_71) ((Reference text_6) ∷ []) false) ∷ []) false false
    (Some text_3) false None (Some (modes_of false false false None))))
    ∷ []

pub history_8 : outcomes rules_0 [] lines_8 ≡
    out (Pending text_72 (modes_of false true false None) text_52 text_35 (replicate 32 0) 600 None)
    (opened 1 text_3 false (Some text_27) 2593000
    ∷ terms 1 ((ask_of (Some text_31) ((Reference text_5) ∷ []) false) ∷ (ask_of (Some text_41) ((Reference text_6) ∷ []) true)
    ∷ (ask_of (Some text_66) ((Reference text_5) ∷ []) false) ∷ (ask_of (Some text_67) ((Reference text_6) ∷ []) false) ∷ []) false false
    ∷ Door 1 text_72 1005 ∷ pended 1 1600 2200 (modes_of false true false None) text_52 (Some text_35) None ∷ [])
    ∷ out (Pending text_34 (modes_of false true false None) text_36 text_44 (replicate 32 0) 5 (Some text_3))
    (opened 2 text_3 true (Some text_27) 1005 ∷ terms 2 ((ask_of None ((Reference text_5) ∷ (Reference text_6) ∷ []) false) ∷ []) true false
    ∷ Door 2 text_34 1005 ∷ pended 2 1005 2200 (modes_of false true false None) text_36 (Some text_44) None ∷ [])
    ∷ out (Pending text_45 (modes_of true true false None) text_47 text_73 (replicate 32 0) 600 (Some text_3))
    (opened 3 text_3 true None 2593000
    ∷ terms 3 ((ask_of (Some text_31) ((Reference text_6) ∷ (Reference text_6) ∷ (Reference text_5) ∷ []) false) ∷ []) false false ∷ Door 3 text_45 1005
    ∷ pended 3 1600 2200 (modes_of true true false None) text_47 (Some text_73) None ∷ [])
    ∷ out (Decided None) (decided 2 Deny None ((Reference text_5) ∷ (Reference text_6) ∷ []) (Some text_56) ∷ [])
    ∷ out (Error InvalidContinuation) []
    ∷ out (Error InvalidRequest) []
    ∷ out (Error InvalidRotation) []
    ∷ out (Error UnknownInteraction) []
    ∷ out (Error InvalidContinuation) []
    ∷ []
unfolding value_text encode_symbols code_text
history_8 = refl

-- ---- random history 9
abbrev lines_9 : List Line
lines_9 = line 1000 (words [] 0)
    (Begin text_3 (request_of ((ask_of (Some text_31) ((object text_16 (Some (text_17 ∷ text_18 ∷ [])) (Some (text_19 ∷ [])) None None None text_20) ∷ [])
    false) ∷ []) true false (Some text_3) true (Some text_27) None) None)
    ∷ line 1001 (words [] 2) (Rotate text_3 text_52 None)
    ∷ line 1003 (words (16887313687761031515 ∷ 15215520357635044551 ∷ []) 0)
    (Introspect text_9 text_53 (Some Httpsig)
    (Some ((object text_16 (Some (text_18 ∷ [])) (Some (text_21 ∷ [])) None None None text_20)
    ∷ (object text_16 (Some (text_17 ∷ text_18 ∷ [])) (Some (text_19 ∷ [])) None None None text_20) ∷ [])))
    ∷ line 1004 (words (12467707121761601281 ∷ 9609054949669411416 ∷ 1 ∷ 1 ∷ []) 0) (Introspect text_9 text_36 (Some Httpsig) None)
    ∷ line 1009 (words [] 0) (Continue text_3 text_34 None)
    ∷ line 1014 (words [] 0) (Modify text_3 text_47
    (request_of ((ask_of (Some text_31) ((object text_16 (Some (text_17 ∷ text_18 ∷ [])) (Some (text_19 ∷ [])) None None None text_20) ∷ []) false)
    ∷ (ask_of (Some text_41) ((object text_16 (Some (text_17 ∷ text_18 ∷ [])) (Some (text_19 ∷ [])) None None None text_20)
    ∷ (object text_16 (Some (text_17 ∷ [])) (Some (text_21 ∷ [])) None None None text_20) ∷ []) true) ∷ []) false false (Some text_3) true None
    (Some (modes_of false true false (Some (finish_by true text_64 text_33 false))))))
    ∷ line 1018 (words [] 0) (Continue text_3 text_48 None)
    ∷ []

pub history_9 : outcomes rules_2 [] lines_9 ≡
    out (Granted text_34 ((token_out text_53 text_52 (Some text_31)
    ((object text_16 (Some (text_17 ∷ text_18 ∷ [])) (Some (text_19 ∷ [])) None None None text_20) ∷ []) 3600 false) ∷ []) true None (Some text_3))
    (opened 1 text_3 true (Some text_27) 2593000
    ∷ terms 1 ((ask_of (Some text_31) ((object text_16 (Some (text_17 ∷ text_18 ∷ [])) (Some (text_19 ∷ [])) None None None text_20) ∷ []) false) ∷ []) true
    false ∷ Approved 1 [] ∷ issued 1 1 (Some text_31) ((object text_16 (Some (text_17 ∷ text_18 ∷ [])) (Some (text_19 ∷ [])) None None None text_20) ∷ [])
    false text_3 1000 4600 text_53 text_52 ∷ Door 1 text_34 1005 ∷ [])
    ∷ out (Rotated (token_out text_36 text_45 (Some text_31)
    ((object text_16 (Some (text_17 ∷ text_18 ∷ [])) (Some (text_19 ∷ [])) None None None text_20) ∷ []) 3600 false))
    (Retired 1 ByRotation ∷ issued 4 1 (Some text_31) ((object text_16 (Some (text_17 ∷ text_18 ∷ [])) (Some (text_19 ∷ [])) None None None text_20) ∷ []) false
    text_3 1001 4601 text_36 text_45 ∷ [])
    ∷ out Inactive []
    ∷ out (Active ((object text_16 (Some (text_17 ∷ text_18 ∷ [])) (Some (text_19 ∷ [])) None None None text_20) ∷ []) 1001 4601 text_3 false) []
    ∷ out (Continuing text_47) (Door 1 text_47 1014 ∷ [])
    ∷ out (Pending text_48 (modes_of false true false (Some (finish_by true text_64 text_33 false))) text_49 text_35 text_42 600 None)
    (Retired 4 ByModification ∷ terms 1
    ((ask_of (Some text_31) ((object text_16 (Some (text_17 ∷ text_18 ∷ [])) (Some (text_19 ∷ [])) None None None text_20) ∷ []) false)
    ∷ (ask_of (Some text_41) ((object text_16 (Some (text_17 ∷ text_18 ∷ [])) (Some (text_19 ∷ [])) None None None text_20)
    ∷ (object text_16 (Some (text_17 ∷ [])) (Some (text_21 ∷ [])) None None None text_20) ∷ []) true) ∷ []) false false ∷ Door 1 text_48 1019
    ∷ pended 1 1614 2214 (modes_of false true false (Some (finish_by true text_64 text_33 false))) text_49 (Some text_35) (Some text_42) ∷ [])
    ∷ out (Error TooFast) []
    ∷ []
unfolding value_text encode_symbols code_text
history_9 = refl

pub tokens_9 : told rules_2 lines_9 (asked 4601 (text_53 ∷ text_36 ∷ []) ∷ asked 2213 (text_53 ∷ text_36 ∷ []) ∷ asked 4600 (text_53 ∷ text_36 ∷ []) ∷ [])
    ≡ (false ∷ false ∷ false ∷ false ∷ false ∷ false ∷ false ∷ false ∷ false ∷ false ∷ false ∷ false ∷ [])
unfolding value_text encode_symbols code_text
tokens_9 = refl

-- ---- random history 10
abbrev lines_10 : List Line
lines_10 = line 5 (words [] 25600000000)
    (Begin text_3 (request_of ((ask_of (Some text_31) ((object text_16 (Some (text_17 ∷ [])) (Some (text_21 ∷ [])) None None None text_20) ∷ []) false)
    ∷ (ask_of (Some text_41) ((object text_16 (Some (text_17 ∷ [])) (Some (text_21 ∷ [])) None None None text_20) ∷ []) true) ∷ []) false false (Some text_3)
    false None None) None)
    ∷ line 10 (words [] 2) (Begin text_3
    (request_of [] false false (Some text_3) true (Some text_27) (Some (modes_of true false true (Some (finish_by false text_32 text_33 true))))) None)
    ∷ line 13 (words [] 0) (Revoke text_7 text_36)
    ∷ line 13 (words [] 0) (Introspect text_30 text_34 (Some Httpsig)
    (Some ((object text_16 (Some (text_18 ∷ [])) (Some (text_21 ∷ [])) None None None text_20)
    ∷ (object text_16 (Some []) (Some (text_19 ∷ [])) None None None text_20) ∷ [])))
    ∷ line 18 (words [] 25600000001)
    (Modify text_3 text_47 (request_of
    ((ask_of (Some text_31) ((object text_16 (Some (text_17 ∷ text_18 ∷ [])) (Some (text_19 ∷ [])) None None None text_20)
    ∷ (object text_16 (Some (text_17 ∷ text_18 ∷ [])) (Some (text_19 ∷ [])) None None None text_20) ∷ []) true)
    ∷ (ask_of (Some text_41) ((object text_16 (Some (text_17 ∷ [])) (Some (text_21 ∷ [])) None None None text_20)
    ∷ (object text_16 (Some (text_17 ∷ text_18 ∷ [])) (Some (text_19 ∷ [])) None None None text_20) ∷ []) false) ∷ []) false false (Some text_3) false None
    (Some (modes_of true false false (Some (finish_by false text_64 text_60 true))))))
    ∷ line 18 (words [] 0) (Look text_14 text_34)
    ∷ line 19 (words [] 25600000001) (Continue text_3 text_50 None)
    ∷ line 24 (words [] 0) (Continue text_3 text_50 (Some text_40))
    ∷ line 29 (words [] 25600000000) (Continue text_3 text_45 None)
    ∷ []

pub history_10 : outcomes rules_1 [] lines_10 ≡
    out (Granted text_45 ((token_out text_53 text_52 (Some text_31) ((object text_16 (Some (text_17 ∷ [])) (Some (text_21 ∷ [])) None None None text_20) ∷ [])
    3600 false) ∷ (token_out text_34 text_36 (Some text_41) ((object text_16 (Some (text_17 ∷ [])) (Some (text_21 ∷ [])) None None None text_20) ∷ []) 3600
    true) ∷ []) false None None)
    (opened 1 text_3 false None 2592005
    ∷ terms 1 ((ask_of (Some text_31) ((object text_16 (Some (text_17 ∷ [])) (Some (text_21 ∷ [])) None None None text_20) ∷ []) false)
    ∷ (ask_of (Some text_41) ((object text_16 (Some (text_17 ∷ [])) (Some (text_21 ∷ [])) None None None text_20) ∷ []) true) ∷ []) false false
    ∷ Approved 1 [] ∷ issued 1 1 (Some text_31) ((object text_16 (Some (text_17 ∷ [])) (Some (text_21 ∷ [])) None None None text_20) ∷ []) false text_3 5
    3605 text_53 text_52 ∷ issued 3 1 (Some text_41) ((object text_16 (Some (text_17 ∷ [])) (Some (text_21 ∷ [])) None None None text_20) ∷ []) true text_3
    5 3605 text_34 text_36 ∷ Door 1 text_45 10 ∷ [])
    ∷ out (Granted text_47 [] false None (Some text_3))
    (opened 2 text_3 true (Some text_27) 2592010 ∷ terms 2 [] false false ∷ Approved 2 [] ∷ Door 2 text_47 15 ∷ [])
    ∷ out (Error InvalidClient) []
    ∷ out (Error InvalidAccess) []
    ∷ out (Granted text_50 ((token_out text_48 text_49 (Some text_31)
    ((object text_16 (Some (text_17 ∷ text_18 ∷ [])) (Some (text_19 ∷ [])) None None None text_20)
    ∷ (object text_16 (Some (text_17 ∷ text_18 ∷ [])) (Some (text_19 ∷ [])) None None None text_20) ∷ []) 3600 true)
    ∷ (token_out text_42 text_46 (Some text_41)
    ((object text_16 (Some (text_17 ∷ [])) (Some (text_21 ∷ [])) None None None text_20)
    ∷ (object text_16 (Some (text_17 ∷ text_18 ∷ [])) (Some (text_19 ∷ [])) None None None text_20) ∷ []) 3600 false) ∷ []) false None None)
    (terms 2 ((ask_of (Some text_31)
    ((object text_16 (Some (text_17 ∷ text_18 ∷ [])) (Some (text_19 ∷ [])) None None None text_20)
    ∷ (object text_16 (Some (text_17 ∷ text_18 ∷ [])) (Some (text_19 ∷ [])) None None None text_20) ∷ []) true)
    ∷ (ask_of (Some text_41) ((object text_16 (Some (text_17 ∷ [])) (Some (text_21 ∷ [])) None None None text_20)
    ∷ (object text_16 (Some (text_17 ∷ text_18 ∷ [])) (Some (text_19 ∷ [])) None None None text_20) ∷ []) false) ∷ []) false false ∷ Approved 2 []
    ∷ issued 7 2 (Some text_31) ((object text_16 (Some (text_17 ∷ text_18 ∷ [])) (Some (text_19 ∷ [])) None None None text_20)
    ∷ (object text_16 (Some (text_17 ∷ text_18 ∷ [])) (Some (text_19 ∷ [])) None None None text_20) ∷ []) true text_3 18 3618 text_48 text_49
    ∷ issued 9 2 (Some text_41) ((object text_16 (Some (text_17 ∷ [])) (Some (text_21 ∷ [])) None None None text_20)
    ∷ (object text_16 (Some (text_17 ∷ text_18 ∷ [])) (Some (text_19 ∷ [])) None None None text_20) ∷ []) false text_3 18 3618 text_42 text_46
    ∷ Door 2 text_50 23 ∷ [])
    ∷ out (Error UnknownInteraction) []
    ∷ out (Error TooFast) []
    ∷ out (Error TooManyAttempts) (Finalized 2 ∷ [])
    ∷ out (Continuing text_51) (Door 1 text_51 34 ∷ [])
    ∷ []
unfolding value_text encode_symbols code_text
history_10 = refl

pub tokens_10 : told rules_1 lines_10
    (asked 2592010 (text_53 ∷ text_34 ∷ text_48 ∷ text_42 ∷ []) ∷ asked 34 (text_53 ∷ text_34 ∷ text_48 ∷ text_42 ∷ [])
    ∷ asked 2592005 (text_53 ∷ text_34 ∷ text_48 ∷ text_42 ∷ []) ∷ [])
    ≡ (false ∷ false ∷ false ∷ false ∷ false ∷ false ∷ false ∷ false ∷ true ∷ true ∷ true ∷ true ∷ false ∷ false ∷ false ∷ false ∷ false ∷ false ∷ false ∷ false
    ∷ false ∷ false ∷ false ∷ false ∷ [])
unfolding value_text encode_symbols code_text
tokens_10 = refl

-- ---- random history 11
abbrev lines_11 : List Line
lines_11 = line 1700000000 (words [] 18446744073709551615)
    (Begin text_3 (request_of ((ask_of None ((object text_16 (Some (text_17 ∷ text_18 ∷ [])) (Some (text_19 ∷ [])) None None None text_20) ∷ []) false) ∷ [])
    true true (Some text_3) false None (Some (modes_of true false false (Some (finish_by false text_32 text_33 false))))) None)
    ∷ line 1700000599 (words [] 25599999999)
    (Begin text_3 (request_of ((ask_of (Some text_31)
    ((Reference text_5) ∷ (object text_5 None None (Some (text_23 ∷ text_24 ∷ [])) (Some (text_25 ∷ [])) None text_20)
    ∷ (object text_5 None None (Some (text_23 ∷ text_24 ∷ [])) (Some (text_25 ∷ [])) None text_20) ∷ []) false) ∷ []) true false (Some text_3) false None
    (Some (modes_of true false false (Some (finish_by false text_32 text_33 false))))) None)
    ∷ line 1700000599 (words [] 16798463901183915515) (Look text_14 text_45)
    ∷ line 1700000599 (words [] 18446744073709551615) (Continue text_3 text_36 None)
    ∷ line 1700000603 (words [] 18446744073709551615) (FindCode text_14 (replicate 8 0))
    ∷ line 1700000609 (words [] 0) (Decide text_14 (decide_of text_45 Grant None (Some text_56)))
    ∷ []

pub history_11 : outcomes rules_1 [] lines_11 ≡
    out (Pending text_53 (modes_of true false false (Some (finish_by false text_32 text_33 false))) text_52 (replicate 8 0) text_34 600 None)
    (opened 1 text_3 false None 1702592000
    ∷ terms 1 ((ask_of None ((object text_16 (Some (text_17 ∷ text_18 ∷ [])) (Some (text_19 ∷ [])) None None None text_20) ∷ []) false) ∷ []) true true
    ∷ Door 1 text_53 1700000005
    ∷ pended 1 1700000600 1700001200 (modes_of true false false (Some (finish_by false text_32 text_33 false))) text_52 None (Some text_34) ∷ [])
    ∷ out (Pending text_36 (modes_of true false false (Some (finish_by false text_32 text_33 false))) text_45 (replicate 8 0) text_47 600 None)
    (opened 2 text_3 false None 1702592599
    ∷ terms 2 ((ask_of (Some text_31)
    ((Reference text_5) ∷ (object text_5 None None (Some (text_23 ∷ text_24 ∷ [])) (Some (text_25 ∷ [])) None text_20)
    ∷ (object text_5 None None (Some (text_23 ∷ text_24 ∷ [])) (Some (text_25 ∷ [])) None text_20) ∷ []) false) ∷ []) true false ∷ Door 2 text_36 1700000604
    ∷ pended 2 1700001199 1700001799 (modes_of true false false (Some (finish_by false text_32 text_33 false))) text_45 None (Some text_47) ∷ [])
    ∷ out (Shown ((ask_of (Some text_31)
    ((Reference text_5) ∷ (object text_5 None None (Some (text_23 ∷ text_24 ∷ [])) (Some (text_25 ∷ [])) None text_20)
    ∷ (object text_5 None None (Some (text_23 ∷ text_24 ∷ [])) (Some (text_25 ∷ [])) None text_20) ∷ []) false) ∷ []) text_3 600 false None) []
    ∷ out (Error TooFast) []
    ∷ out (Error UnknownInteraction) []
    ∷ out (Decided (Some (finish_out (finish_by false text_32 text_33 false) text_47 text_48)))
    (decided 2 Grant (Some text_48)
    ((Reference text_5) ∷ (object text_5 None None (Some (text_23 ∷ text_24 ∷ [])) (Some (text_25 ∷ [])) None text_20)
    ∷ (object text_5 None None (Some (text_23 ∷ text_24 ∷ [])) (Some (text_25 ∷ [])) None text_20) ∷ []) (Some text_56) ∷ [])
    ∷ []
unfolding value_text encode_symbols code_text
history_11 = refl

-- ---- random history 12
abbrev lines_12 : List Line
lines_12 = line 1000 (words [] 25599999999)
    (Begin text_3 (request_of ((ask_of (Some text_31) ((Reference text_6) ∷ []) false)
    ∷ (ask_of (Some text_41) ((Reference text_5) ∷ (Reference text_5) ∷ []) true) ∷ (ask_of (Some text_66) ((Reference text_6) ∷ []) false) ∷ []) false false
    (Some text_3) false None None) None)
    ∷ line 1006 (words (18446744073709551615 ∷ 1115500667723741494 ∷ 18446744073709551615 ∷ 18446744073709551615 ∷ 4804635956613342535 ∷ 18446744073709551615
    ∷ 18446744073709551615 ∷ 18446744073709551615 ∷ 1 ∷ 554055923886394313 ∷ 1 ∷ 1 ∷ 1 ∷ 18446744073709551615 ∷ 18446744073709551615 ∷ 13557391698183343764 ∷ 1
    ∷ 16872653153984411130 ∷ 1 ∷ 1 ∷ 12525490795610833106 ∷ 1 ∷ 18446744073709551615 ∷ 8687032356156252005 ∷ 18446744073709551615 ∷ 1 ∷ 1 ∷ 1
    ∷ 18446744073709551615 ∷ 9039076711194371439 ∷ 18446744073709551615 ∷ 1 ∷ 18446744073709551615 ∷ 1 ∷ []) 0) (Continue text_3 [] (Some []))
    ∷ line 1009 (words [] 0) (Begin text_3
    (request_of ((ask_of None ((Reference text_6) ∷ (Reference text_5) ∷ (Reference text_6) ∷ []) false) ∷ []) true false (Some text_3) false (Some text_27)
    (Some (modes_of true true false (Some (finish_by true text_32 text_60 false))))) None)
    ∷ line 2209 (words (18446744073709551615 ∷ 1 ∷ 18446744073709551615 ∷ 6924311128704067213 ∷ 10127311489821914665 ∷ 1 ∷ []) 0)
    (Modify text_3 text_53 (request_of
    ((ask_of (Some text_31) ((Reference text_5) ∷ []) false) ∷ (ask_of (Some text_41) ((Reference text_5) ∷ (Reference text_5) ∷ []) true) ∷ []) false false
    (Some text_3) true (Some text_27) None))
    ∷ line 2215 (words [] 25599999999) (Look text_14 text_52)
    ∷ line 2218 (words [] 2) (Introspect text_9 text_53 None None)
    ∷ line 2223 (words [] 0) Lapse
    ∷ []

pub history_12 : outcomes rules_0 [] lines_12 ≡
    out (Error RequestDenied) []
    ∷ out (Error InvalidContinuation) []
    ∷ out (Pending text_53 (modes_of true true false (Some (finish_by true text_32 text_60 false))) text_52 text_35 text_34 600 None)
    (opened 1 text_3 false (Some text_27) 2593009
    ∷ terms 1 ((ask_of None ((Reference text_6) ∷ (Reference text_5) ∷ (Reference text_6) ∷ []) false) ∷ []) true false ∷ Door 1 text_53 1014
    ∷ pended 1 1609 2209 (modes_of true true false (Some (finish_by true text_32 text_60 false))) text_52 (Some text_35) (Some text_34) ∷ [])
    ∷ out (Error InvalidContinuation) []
    ∷ out (Error UnknownInteraction) []
    ∷ out Inactive []
    ∷ out Lapsed []
    ∷ []
unfolding value_text encode_symbols code_text
history_12 = refl

-- ---- random history 13
abbrev lines_13 : List Line
lines_13 = line 0 (words [] 0) (Begin text_3
    (request_of ((ask_of (Some text_31) ((object text_16 (Some (text_17 ∷ text_18 ∷ [])) (Some (text_19 ∷ [])) None None None text_20) ∷ []) false)
    ∷ (ask_of (Some text_41) ((object text_16 (Some (text_17 ∷ text_18 ∷ [])) (Some (text_19 ∷ [])) None None None text_20) ∷ (Reference text_5) ∷ []) false)
    ∷ []) false false (Some text_3) false None (Some (modes_of true false true None))) None)
    ∷ line 600 (words [] 0) (Continue text_3 text_53 (Some text_40))
    ∷ line 600 (words [] 1) (Continue text_3 text_53 None)
    ∷ line 600 (words [] 2) (FindCode text_14 (replicate 8 0))
    ∷ []

pub history_13 : outcomes rules_2 [] lines_13 ≡
    out (Pending text_53 (modes_of true false true None) text_52 text_35 (replicate 32 0) 600 None)
    (opened 1 text_3 false None 2592000
    ∷ terms 1 ((ask_of (Some text_31) ((object text_16 (Some (text_17 ∷ text_18 ∷ [])) (Some (text_19 ∷ [])) None None None text_20) ∷ []) false)
    ∷ (ask_of (Some text_41) ((object text_16 (Some (text_17 ∷ text_18 ∷ [])) (Some (text_19 ∷ [])) None None None text_20) ∷ (Reference text_5) ∷ [])
    false) ∷ []) false false ∷ Door 1 text_53 5 ∷ pended 1 600 1200 (modes_of true false true None) text_52 (Some text_35) None ∷ [])
    ∷ out (Error InvalidInteraction) (Finalized 1 ∷ [])
    ∷ out (Error InvalidContinuation) []
    ∷ out (Error UnknownInteraction) []
    ∷ []
unfolding value_text encode_symbols code_text
history_13 = refl
