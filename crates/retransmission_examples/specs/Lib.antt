-- The send-back store on a run of calls with two displays.
pub mod SentBack
